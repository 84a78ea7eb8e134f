-- `matrix_terms::rest` meets its contract. The invariant: the first i rows from 1 on are subtracted.
-- Assumes nothing.
use mathlib.Core.Path.{◌≡◌}
use Prim.Native.Nat.{ℕ, ◌+◌, ◌-◌, ◌^◌}
use native.Mathlib.Omega.{arith}
use lib.Pow.{pow_pos}
use Rattle.matrix_terms.proofs.RowLeft.{rows_left_none, row_within, rows-left-cover, rows-left-more, rows_left_end}
use Rattle.matrix_terms.proofs.rest.Goals as goal

-- the number of symbols, one less and one more
all_rows : (p : ℕ) {q x : ℕ} → q ≡ 2 ^ p → x ≡ q → x - 1 + 1 ≡ 2 ^ p
all_rows p o w = omega (arith, pow_pos p)

pub loop-i-init : goal.loop-i-init
loop-i-init c = rows_left_none _ _ _ _ c.requires.0.n_high

pub overflow_mul-i : goal.overflow_mul-i
overflow_mul-i c =
    omega (arith, row_within c.requires.0 c.args.m.now c.requires.1 (all_rows c.args.p c.order.ensures c.from-rows.ensures) c.loop-i-test.true)

pub subtract_row-requires : goal.subtract_row-requires
subtract_row-requires c =
    rows-left-cover c.requires.0 _ c.requires.1 (all_rows c.args.p c.order.ensures c.from-rows.ensures) c.loop-i.invariant c.loop-i-test.true c.requires.2

pub loop-i-preserved : goal.loop-i-preserved
loop-i-preserved c =
    rows-left-more c.requires.0 _ c.requires.1 (all_rows c.args.p c.order.ensures c.from-rows.ensures) c.loop-i.invariant c.loop-i-test.true
    c.subtract_row.ensures

pub returns : goal.returns
returns c =
    rows_left_end c.requires.0 _ c.requires.1 (all_rows c.args.p c.order.ensures c.from-rows.ensures) c.loop-i.invariant c.loop-i-test.false

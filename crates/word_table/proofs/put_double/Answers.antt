-- `word_table::put_double` meets its contract. The invariant: b blocks of row 2c are written; row c stands below them, as it was.
-- Assumes nothing.
use mathlib.Core.Path.{refl, sym, ap, subst}
use Prim.Native.Nat.{ℕ, ◌*◌, ◌^◌, ◌<◌}
use native.Mathlib.Nat.{mul-le-mul_right}
use native.Mathlib.Omega.{arith}
use Rattle.spec_field.specs.Symbols.{times_x}
use Rattle.word_table.proofs.Window.{window_none, window_join}
use Rattle.word_table.proofs.Rows.{row_put, block_as_before}
use borrow.Author.Rules.{rules}
use Rattle.word_table.proofs.put_double.Goals as goal

pub overflow_mul-to-3 : goal.overflow_mul-to-3
overflow_mul-to-3 c = omega (arith, c.requires.5, mul-le-mul_right {m = 1} {n = 128 * c.args.blocks} (2 * c.args.c) (omega (arith, c.requires.3)))

pub loop-b-init : goal.loop-b-init
loop-b-init c = window_none _ _ _

pub put_times_x-requires : goal.put_times_x-requires
put_times_x-requires c =
    let read = block_as_before c.args.blocks c.args.c c.loop-b.b c.requires.2 c.loop-b-test.true c.loop-b.invariant c.block-row.ensures in (
      c.requires.0,
      c.requires.1,
      search rules,
      record { symbol = λ k l. subst (λ (x : ℕ). x < 2 ^ c.args.p) (sym (read k l)) (c.requires.6.symbol _ (omega arith)) },
    )

pub loop-b-preserved : goal.loop-b-preserved
loop-b-preserved c =
    let read = block_as_before c.args.blocks c.args.c c.loop-b.b c.requires.2 c.loop-b-test.true c.loop-b.invariant c.block-row.ensures in
    window_join refl (omega arith) (λ k l. refl) (λ k l. ap (times_x c.args.p) (read k l)) c.loop-b.invariant c.put_times_x.ensures

pub returns : goal.returns
returns c = row_put refl (omega arith) c.loop-b.invariant

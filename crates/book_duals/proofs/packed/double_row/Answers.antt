-- `book_duals::packed::double_row` meets its contract. The invariant: b blocks of row 2c are written; row c stands below them, as it was.
-- Assumes nothing.
use mathlib.Core.Path.{refl, ap}
use Prim.Native.Nat.{◌*◌}
use native.Mathlib.Nat.{mul-le-mul_right}
use native.Mathlib.Omega.{arith}
use Rattle.word_table.proofs.Window.{window_none, window_join}
use Rattle.word_table.proofs.Rows.{row_put, block_as_before}
use Rattle.book_duals.specs.Lanes.{double_all}
use borrow.Author.Rules.{rules}
use Rattle.book_duals.proofs.packed.double_row.Goals as goal

pub overflow_mul-to-3 : goal.overflow_mul-to-3
overflow_mul-to-3 c = omega (arith, c.requires.4, mul-le-mul_right {m = 1} {n = 128 * c.args.blocks} (2 * c.args.c) (omega (arith, c.requires.3)))

pub loop-b-init : goal.loop-b-init
loop-b-init c = window_none _ _ _

pub block-row-requires : goal.block-row-requires
block-row-requires c = search (rules, c.loop-b.invariant.long)

pub double_block-requires : goal.double_block-requires
double_block-requires c = search (rules, c.loop-b.invariant.long)

pub loop-b-preserved : goal.loop-b-preserved
loop-b-preserved c =
    let read = block_as_before c.args.blocks c.args.c c.loop-b.b c.requires.2 c.loop-b-test.true c.loop-b.invariant c.block-row.ensures in
    window_join refl (omega arith) (λ k l. refl) (λ k l. ap (double_all c.args.p) (read k l)) c.loop-b.invariant c.double_block.ensures

pub returns : goal.returns
returns c = row_put refl (omega arith) c.loop-b.invariant

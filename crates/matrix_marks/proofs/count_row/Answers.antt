-- `matrix_marks::count_row` meets its contract. The invariant: the first b blocks are added.
-- Assumes nothing.
use mathlib.Core.Path.{◌≡◌}
use native.Mathlib.Nat.{le_trans, le_of_eq}
use native.Mathlib.Omega.{arith}
use Rattle.word_table.proofs.Window.{window_none}
use Rattle.matrix_marks.proofs.Marking.{summable_block, block_added}
use borrow.Author.Rules.{rules}
use Rattle.matrix_marks.proofs.count_row.Goals as goal

pub loop-b-init : goal.loop-b-init
loop-b-init c = window_none _ _ _

pub count_block-row-requires : goal.count_block-row-requires
count_block-row-requires c = summable_block c.requires.0 c.loop-b.b (omega arith)

pub raise-requires : goal.raise-requires
raise-requires c = (search rules, λ j l. le_trans (le_of_eq (c.loop-b.invariant.high _ (omega arith))) (c.requires.2 _))

pub loop-b-preserved : goal.loop-b-preserved
loop-b-preserved c = block_added c.requires.0 _ c.count_block-row.ensures c.loop-b.invariant c.raise.ensures

pub returns : goal.returns
returns c = let e : c.loop-b.b ≡ c.args.blocks = omega arith in rw e at c.loop-b.invariant

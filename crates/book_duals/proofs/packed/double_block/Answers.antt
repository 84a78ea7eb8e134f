-- `book_duals::packed::double_block` meets its contract. The invariant: j places are written.
-- Assumes nothing.
use mathlib.Core.Path.{◌≡◌, refl}
use native.Mathlib.Omega.{arith}
use Rattle.word_table.proofs.Window.{window_none, window_more}
use Rattle.book_duals.proofs.Lanes.{rest_fits, top_fits, double_value}
use borrow.Author.Rules.{rules}
use Rattle.book_duals.proofs.packed.double_block.Goals as goal

pub loop-j-init : goal.loop-j-init
loop-j-init c = window_none _ _ _

pub overflow_add-t : goal.overflow_add-t
overflow_add-t c = search (rules, rest_fits c.args.p c.other_digits-others.ensures)

pub overflow_mul-t : goal.overflow_mul-t
overflow_mul-t c = search (rules, top_fits c.args.p c.low_digits-ones.ensures)

pub loop-j-preserved : goal.loop-j-preserved
loop-j-preserved c =
    let x = double_value c.args.p refl c.low_digits-ones.ensures c.other_digits-others.ensures in
    window_more _ (omega arith) x c.loop-j.invariant

pub returns : goal.returns
returns c = let e : c.loop-j.j ≡ 64 = omega arith in rw e at c.loop-j.invariant

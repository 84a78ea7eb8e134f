-- `book_duals::join_block` meets its contract. The invariant: j places are joined.
-- Assumes nothing.
use mathlib.Core.Path.{◌≡◌}
use native.Mathlib.Nat.{le_refl}
use native.Mathlib.Omega.{arith}
use Rattle.word_table.proofs.Window.{window_none, window_more}
use Rattle.book_duals.proofs.join_block.Goals as goal

pub loop-j-init : goal.loop-j-init
loop-j-init c = window_none _ _ _

pub loop-j-preserved : goal.loop-j-preserved
loop-j-preserved c =
    let so_far = c.loop-j.invariant in
    window_more _ (omega arith) (rw (so_far.high _ (le_refl _))) so_far

pub returns : goal.returns
returns c = let e : c.loop-j.j ≡ 64 = omega arith in rw e at c.loop-j.invariant

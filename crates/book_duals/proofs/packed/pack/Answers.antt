-- `book_duals::packed::pack` meets its contract. The invariant: the places below j have the sum.
-- Assumes nothing.
use mathlib.Core.Path.{◌≡◌}
use native.Mathlib.Nat.{le_refl}
use native.Mathlib.Omega.{arith}
use Rattle.spec_range.proofs.Loop.{over_none, over_more, over_table}
use borrow.Author.Rules.{rules}
use Rattle.book_duals.proofs.packed.pack.Goals as goal

pub loop-j-init : goal.loop-j-init
loop-j-init c = over_none _ _

pub loop-j-preserved : goal.loop-j-preserved
loop-j-preserved c =
    let so_far = c.loop-j.invariant in
    over_more _ (omega arith) (rw (so_far.rest _ (le_refl c.loop-j.j))) so_far

pub returns : goal.returns
returns c =
    let e : c.loop-j.j ≡ 64 = omega arith in
    over_table _ _ _ _ (search rules) (rw e at c.loop-j.invariant)

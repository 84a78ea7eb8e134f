-- `book_records::bounds` meets its contract. The invariant: the places from 1 to j hold q, the first has 255, the others 1.
-- Assumes nothing.
use mathlib.Core.Path.{refl}
use native.Mathlib.Omega.{arith}
use borrow.Author.Tests.{ne_eqb}
use Rattle.spec_range.proofs.Loop.{over_none, over_more}
use Rattle.book_records.proofs.Bounded.{bounds_end}
use borrow.Author.Rules.{rules}
use Rattle.book_records.proofs.bounds.Goals as goal

pub loop-j-init : goal.loop-j-init
loop-j-init c = (search rules, search rules, over_more 255 (search rules) refl (over_none _ _))

pub loop-j-preserved : goal.loop-j-preserved
loop-j-preserved c =
    let s = c.loop-j in
    (search rules, search rules, over_more _ (omega (arith, s.invariant.2.long)) (rw (ne_eqb s.j 0 (λ e. omega arith)) refl) s.invariant.2)

pub returns : goal.returns
returns c = bounds_end _ (search rules) (search rules) (search rules) c.loop-j.invariant.2

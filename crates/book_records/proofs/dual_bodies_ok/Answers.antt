-- `book_records::dual_bodies_ok` meets its contract. The invariant: the bodies of the dual words below l are right.
-- Assumes nothing.
use mathlib.Core.Path.{sym}
use native.Mathlib.Omega.{arith}
use Rattle.spec_range.proofs.Loop.{passing_none, passing_more, passing_fails}
use Rattle.book_records.proofs.Tested.{dual_body}
use borrow.Author.Rules.{rules}
use Rattle.book_records.proofs.dual_bodies_ok.Goals as goal

pub loop-l-init : goal.loop-l-init
loop-l-init c = passing_none _ _

pub body_ok-requires : goal.body_ok-requires
body_ok-requires c =
    rw c.dual_at.ensures (dual_body c.requires.0 c.requires.1 {l = c.loop-l.l} (omega (arith, c.dual_count-count.ensures.0)), c.requires.2)

pub returns-then-not-body_ok : goal.returns-then-not-body_ok
returns-then-not-body_ok c =
    passing_fails c.loop-l.invariant (search rules) (sym (rw c.dual_at.ensures at c.if-not-body_ok.ensures))

pub loop-l-preserved : goal.loop-l-preserved
loop-l-preserved c =
    passing_more c.loop-l.invariant (search rules) (sym (rw c.dual_at.ensures at c.if-not-body_ok.ensures))

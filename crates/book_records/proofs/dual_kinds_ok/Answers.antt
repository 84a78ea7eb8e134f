-- `book_records::dual_kinds_ok` meets its contract. The invariant: the dual words below l have their kind byte.
-- Assumes nothing.
use native.Mathlib.Omega.{arith}
use borrow.Author.Tests.{eq-eqb, ne_eqb}
use Rattle.spec_range.proofs.Loop.{passing_none, passing_more, passing_fails, passing_end}
use Rattle.book_records.proofs.Tested.{dual_room}
use borrow.Author.Rules.{rules}
use Rattle.book_records.proofs.dual_kinds_ok.Goals as goal

pub loop-l-preserved : goal.loop-l-preserved
loop-l-preserved c =
    passing_more c.loop-l.invariant (search rules) (eq-eqb _ _ (rw c.dual_at.ensures at c.if-book-dual_at.false))

pub loop-l-init : goal.loop-l-init
loop-l-init c = passing_none _ _

pub bounds-book-dual_at : goal.bounds-book-dual_at
bounds-book-dual_at c =
    omega (arith, c.dual_at.ensures, dual_room {l = c.loop-l.l} c.requires (omega (arith, c.dual_count-count.ensures.0)))

pub returns-then-book-dual_at : goal.returns-then-book-dual_at
returns-then-book-dual_at c =
    passing_fails c.loop-l.invariant (search rules) (ne_eqb _ _ (rw c.dual_at.ensures at c.if-book-dual_at.true))

pub returns : goal.returns
returns c = passing_end c.loop-l.invariant (search rules)

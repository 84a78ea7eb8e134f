-- `book_records::dual_bodies_ok` meets its contract. The invariant: the bodies of the dual words below l are right.
-- Assumes nothing.
use Rattle.spec_range.proofs.Loop.{Passing}
use Rattle.spec_book.specs.Layout.{width, dual_at, duals_in}
use Rattle.spec_book.specs.Conditions.{body_ok}
use Rattle.book_records.proofs.dual_bodies_ok.Given as goal

abbrev pub invariant-loop-l : goal.invariant-loop-l
invariant-loop-l s = Passing (duals_in s.book) (λ l. body_ok s.book (dual_at (width s.book) l)) s.l

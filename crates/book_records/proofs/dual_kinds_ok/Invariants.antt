-- `book_records::dual_kinds_ok` meets its contract. The invariant: the dual words below l have their kind byte.
-- Assumes nothing.
use lib.Dec.{eqb}
use Rattle.spec_range.proofs.Loop.{Passing}
use Rattle.spec_book.specs.Layout.{width, dual_at, duals_in, byte}
use Rattle.book_records.proofs.dual_kinds_ok.Given as goal

abbrev pub invariant-loop-l : goal.invariant-loop-l
invariant-loop-l s = Passing (duals_in s.book) (λ l. eqb (byte s.book (dual_at (width s.book) l)) s.kind) s.l

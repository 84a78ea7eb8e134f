-- `book_records::body_ok` meets its contract. The invariant: `ok` says whether the places of the first b blocks are below their bounds.
-- Assumes nothing.
use Rattle.book_records.proofs.Bounded.{Bounded}
use Rattle.book_records.proofs.body_ok.Given as goal

abbrev pub invariant-loop-b : goal.invariant-loop-b
invariant-loop-b l = Bounded l.book l.bounds l.start l.blocks l.b l.ok

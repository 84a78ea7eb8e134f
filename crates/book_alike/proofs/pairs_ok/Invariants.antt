-- `book_alike::pairs_ok` meets its contract. The invariant: no dual word below l is like one before it.
-- Assumes nothing.
use Rattle.spec_range.proofs.Loop.{Passing}
use Rattle.book_alike.specs.Compared.{differ}
use Rattle.book_alike.proofs.pairs_ok.Given as goal

abbrev pub invariant-loop-l : goal.invariant-loop-l
invariant-loop-l now = Passing now.duals (differ now.p now.n now.book) now.l

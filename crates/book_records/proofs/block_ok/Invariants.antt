-- `book_records::block_ok` meets its contract. The invariant: `bad` is the number of places below j that are not below their bound.
-- Assumes nothing.
use Prim.Native.Nat.{◌+◌}
use lib.Dec.{leb}
use lib.ListN.{get_or}
use Rattle.word_array.proofs.Counted.{Counted}
use Rattle.spec_book.specs.Layout.{byte}
use Rattle.book_records.proofs.block_ok.Given as goal

abbrev pub invariant-loop-j : goal.invariant-loop-j
invariant-loop-j l = Counted 64 (λ j. leb (get_or l.bounds (l.at + j) 0) (byte l.book (l.start + (l.at + j)))) l.j l.bad

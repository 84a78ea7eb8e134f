-- `book_duals::weight_block` meets its contract. The invariant: `count` is the number of nonzero bytes below place j.
-- Assumes nothing.
use Prim.Native.Nat.{◌+◌}
use Rattle.spec_word.specs.Word.{nonzero}
use Rattle.word_array.specs.Stored.{place}
use Rattle.word_array.proofs.Counted.{Counted}
use Rattle.book_duals.proofs.weight_block.Given as goal

abbrev pub invariant-loop-j : goal.invariant-loop-j
invariant-loop-j l = Counted 64 (λ j. nonzero (place l.book (l.from + j))) l.j l.count

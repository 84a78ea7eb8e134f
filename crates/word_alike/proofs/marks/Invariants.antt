-- `word_alike::marks` meets its contract. The invariant: the marks below place j are made.
-- Assumes nothing.
use Prim.Native.Nat.{◌+◌}
use lib.Bits.{bit_and}
use Rattle.spec_range.proofs.Loop.{Held}
use Rattle.word_array.specs.Stored.{place}
use Rattle.word_alike.specs.Signature.{mark_at}
use Rattle.word_alike.proofs.marks.Given as goal

abbrev pub invariant-loop-j : goal.invariant-loop-j
invariant-loop-j l = Held 64 l.j (λ j. bit_and (mark_at l.n (λ j. place l.rows (l.from + j)) j) (place l.inside (l.at + j))) l.out

-- `word_divide::copy` meets its contract. The invariant: the places below j are the word's.
-- Assumes nothing.
use Rattle.spec_range.proofs.Loop.{Over}
use Rattle.word_array.specs.Stored.{place}
use Rattle.word_divide.proofs.copy.Given as goal

abbrev pub invariant-loop-j : goal.invariant-loop-j
invariant-loop-j l = Over l.j (place l.w) l.initial.v l.v

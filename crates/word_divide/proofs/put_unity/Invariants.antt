-- `word_divide::put_unity` meets its contract. The invariant: the places below j are zero.
-- Assumes nothing.
use Rattle.spec_range.proofs.Loop.{Over}
use Rattle.word_divide.proofs.put_unity.Given as goal

abbrev pub invariant-loop-j : goal.invariant-loop-j
invariant-loop-j l = Over l.j (λ j. 0) l.initial.v l.v

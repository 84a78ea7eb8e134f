-- `word_alike::inside` meets its contract. The invariant: the places below j are set.
-- Assumes nothing.
use Rattle.spec_range.proofs.Loop.{Held}
use Rattle.word_alike.proofs.inside.Given as goal

abbrev pub invariant-loop-j : goal.invariant-loop-j
invariant-loop-j l = Held 256 l.j (λ _. 255) l.out

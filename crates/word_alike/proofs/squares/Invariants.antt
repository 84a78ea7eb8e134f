-- `word_alike::squares` meets its contract. The invariant: `sum` is that of the squares below place j.
-- Assumes nothing.
use Rattle.word_alike.proofs.Signing.{SquaresTo}
use Rattle.word_alike.proofs.squares.Given as goal

abbrev pub invariant-loop-j : goal.invariant-loop-j
invariant-loop-j l = SquaresTo l.m l.before l.j l.sum

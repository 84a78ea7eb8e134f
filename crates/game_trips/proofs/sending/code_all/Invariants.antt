-- `game_trips::sending::code_all` meets its contract. The invariant is `SoFar`: the first m words stand in their places.
-- Assumes nothing.
use Rattle.spec_word.specs.Mixed.{part}
use Rattle.spec_operations.specs.Coding.{coded}
use Rattle.game_trips.proofs.Mixing.{SoFar}
use Rattle.game_trips.proofs.sending.code_all.Given as goal

abbrev pub invariant-loop-m : goal.invariant-loop-m
invariant-loop-m l = SoFar l.n l.words (λ i. coded l.book (part l.k l.messages i)) l.m l.out

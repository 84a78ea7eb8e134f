-- `game_trips::sending::mix` meets its contract. The invariant: the first j symbols of the word are put.
-- Assumes nothing.
use Rattle.game_trips.specs.Mixing.{Put}
use Rattle.game_trips.proofs.sending.mix.Given as goal

abbrev pub invariant-loop-j : goal.invariant-loop-j
invariant-loop-j l = Put l.j l.words l.m l.word l.initial.out l.out

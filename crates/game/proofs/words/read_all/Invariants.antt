-- `game::words::read_all` meets its contract. The invariant is `ReadSoFar`: what stands after m words.
-- Assumes nothing.
use Prim.Native.Nat.{◌-◌}
use Rattle.game.proofs.Reading.{ReadSoFar}
use Rattle.game.proofs.words.read_all.Given as goal

abbrev pub invariant-loop-m : goal.invariant-loop-m
invariant-loop-m l = ReadSoFar l.c l.t l.words l.answers l.initial.messages l.m l.messages

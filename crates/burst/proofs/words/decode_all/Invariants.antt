-- `burst::words::decode_all` meets its contract. The invariant is `SoFar`: what stands after m words.
-- Assumes nothing.
use Prim.Native.Nat.{◌-◌}
use Rattle.burst.proofs.Loop.{SoFar}
use Rattle.burst.proofs.words.decode_all.Given as goal

abbrev pub invariant-loop-m : goal.invariant-loop-m
invariant-loop-m l =
    SoFar l.book l.c l.words l.received l.initial.answers l.initial.terms l.m l.terms l.answers l.entries l.records

-- `decode_update::peaks` meets its contract. The invariant: rows 1 to i - 1 are taken.
-- Assumes nothing.
use Prim.Native.Nat.{◌^◌}
use Rattle.decode_update.proofs.Climbing.{Climbing}
use Rattle.decode_update.proofs.peaks.Given as goal

abbrev pub invariant-loop-i : goal.invariant-loop-i
invariant-loop-i l = Climbing (2 ^ l.p) l.n l.m l.i l.counts l.symbols

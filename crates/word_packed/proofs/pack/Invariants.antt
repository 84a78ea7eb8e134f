-- `word_packed::pack` meets its contract. The invariant: the symbols below k are packed.
-- Assumes nothing.
use Prim.Native.Nat.{◌≤◌}
use lib.ListN.{get_or}
use Rattle.word_packed.proofs.Gathering.{Gathered}
use Rattle.word_packed.proofs.pack.Given as goal

abbrev pub invariant-loop-k : goal.invariant-loop-k
invariant-loop-k l = (l.k ≤ 8) × Gathered 8 l.k (λ k. get_or l.e k 0) l.x

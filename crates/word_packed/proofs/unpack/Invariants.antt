-- `word_packed::unpack` meets its contract. The invariant: the places below k are written.
-- Assumes nothing.
use Prim.Native.Nat.{◌≤◌}
use Rattle.spec_range.proofs.Loop.{Over}
use Rattle.spec_word.specs.Lanes.{lane}
use Rattle.word_packed.proofs.unpack.Given as goal

abbrev pub invariant-loop-k : goal.invariant-loop-k
invariant-loop-k l = (l.k ≤ 8) × Over l.k (λ k. lane 8 k l.x) l.initial.e l.e

-- `matrix::clear` meets its contract. The invariant: the entries below k are 0.
-- Assumes nothing.
use Rattle.spec_range.proofs.Loop.{Over}
use Rattle.matrix.proofs.clear.Given as goal

abbrev pub invariant-loop-k : goal.invariant-loop-k
invariant-loop-k l = Over l.k (λ k. 0) l.initial.m l.m

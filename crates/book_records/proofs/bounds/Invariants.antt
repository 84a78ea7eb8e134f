-- `book_records::bounds` meets its contract. The invariant: the places from 1 to j hold q, the first has 255, the others 1.
-- Assumes nothing.
use mathlib.Core.Bool.{cond}
use Prim.Native.Nat.{◌+◌, ◌≤◌}
use lib.Dec.{eqb}
use lib.ListN.{replicate}
use Rattle.spec_range.proofs.Loop.{Over}
use Rattle.book_records.proofs.bounds.Given as goal

abbrev pub invariant-loop-j : goal.invariant-loop-j
invariant-loop-j l = (1 ≤ l.j) × (l.j ≤ l.n + 1) × Over l.j (λ k. cond (eqb k 0) 255 l.q) (replicate 256 1) l.out

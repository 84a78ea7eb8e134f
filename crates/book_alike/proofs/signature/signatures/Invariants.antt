-- `book_alike::signature::signatures` meets its contract. The invariant: the signatures below l are stored.
-- Assumes nothing.
use mathlib.Core.Path.{◌≡◌}
use Prim.Native.Nat.{◌-◌, ◌≤◌}
use lib.ListN.{length}
use Rattle.book_alike.specs.Signed.{Signed}
use Rattle.book_alike.proofs.signature.signatures.Given as goal

abbrev pub invariant-loop-l : goal.invariant-loop-l
invariant-loop-l s = (s.l ≤ s.duals) × (1024 ≡ length s.rows) × Signed s.book s.n s.l s.out

abbrev pub decreases-loop-l : goal.decreases-loop-l
decreases-loop-l s = s.duals - s.l

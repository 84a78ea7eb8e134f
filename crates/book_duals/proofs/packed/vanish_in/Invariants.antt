-- `book_duals::packed::vanish_in` meets its contract. The invariant: the products of the dual words below l are joined.
-- Assumes nothing.
use Prim.Native.Nat.{◌-◌, ◌≤◌}
use Rattle.book_duals.specs.Duals.{dual_product}
use Rattle.book_duals.proofs.Joined.{Joined}
use Rattle.book_duals.proofs.packed.vanish_in.Given as goal

abbrev pub invariant-loop-l : goal.invariant-loop-l
invariant-loop-l l = (l.l ≤ l.duals) × Joined l.n (dual_product l.p l.n l.book) l.l l.left

abbrev pub decreases-loop-l : goal.decreases-loop-l
decreases-loop-l l = l.duals - l.l

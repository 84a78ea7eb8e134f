-- A buffer with a run of bytes written from an index on.
-- Assumes nothing.
use Rattle.std.specs.Prelude.{◌≡◌, List, ℕ, ◌+◌, length}
use Rattle.std.proofs.lemmas.List.Edits.{sets}

-- l with vs stored from index i on
unfoldable pub written : List ℕ → ℕ → List ℕ → List ℕ
written l i vs = sets l i vs

-- vs was written into l from index i on, which left m, as long as l; and j is the index past it
pub record Printed (l : List ℕ) (i : ℕ) (vs m : List ℕ) (j : ℕ) : Type 0 where
  pub past : j ≡ i + length vs
  pub holds : m ≡ written l i vs
  pub kept : length m ≡ length l

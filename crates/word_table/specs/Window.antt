-- A list of which some places in a row are written over.
-- Assumes nothing.
use Rattle.std.specs.Prelude.{◌≡◌, List, ℕ, ◌+◌, ◌≤◌, ◌<◌, length}
use Rattle.word_array.specs.Stored.{place}

-- the n places of w from `from` on became f's values; the others, and the length, are as before
pub record Window (from n : ℕ) (f : ℕ → ℕ) (w₀ w : List ℕ) : Type 0 where
  pub long : length w ≡ length w₀
  pub at : (k : ℕ) → k < n → place w (from + k) ≡ f k
  pub low : (k : ℕ) → k < from → place w k ≡ place w₀ k
  pub high : (k : ℕ) → from + n ≤ k → place w k ≡ place w₀ k

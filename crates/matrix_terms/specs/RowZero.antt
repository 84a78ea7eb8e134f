-- What is left in each column of a matrix, as its rows are subtracted.
-- Assumes nothing.
use Rattle.std.specs.Prelude.{◌≡◌, List, ℕ, ◌+◌, ◌≤◌, ◌<◌, length}
use Rattle.word_array.specs.Stored.{place}

-- the numbers left cover the n numbers of m that start at `from`
pub record Covers (n from : ℕ) (m left : List ℕ) : Type 0 where
  pub few : n ≤ 255
  pub within : from + n ≤ length m
  pub long : length left ≡ 256
  pub covers : (j : ℕ) → j < n → place m (from + j) ≤ place left j

-- they were subtracted
pub record Subtracted (n from : ℕ) (m left₀ left : List ℕ) : Type 0 where
  pub long : length left ≡ 256
  pub less : (j : ℕ) → j < n → place left j + place m (from + j) ≡ place left₀ j

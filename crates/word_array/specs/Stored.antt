-- A word held by value in an array of 255 places, which is zero from place n on.
-- Assumes nothing.
use Rattle.std.specs.Prelude.{List, ℕ, ◌*◌, ◌^◌, ◌≤◌, ◌<◌, get_or}
use Rattle.sizes.specs.Blocks.{blocks}

-- the symbol at a place of an array or a slice
abbrev pub place : List ℕ → ℕ → ℕ
place w j = get_or w j 0

-- what the functions on words ask of p and n
pub record Sizes (p n : ℕ) : Type 0 where
  pub p_low : 1 ≤ p
  pub p_high : p ≤ 6
  pub n_low : 1 ≤ n
  pub n_high : n ≤ 255
  -- the longer a word, the fewer symbols: a table of its multiples has at most 8192 places
  pub together : blocks n * 2 ^ p ≤ 64

-- places below n are symbols of GF(2^p)
pub record Stored (p n : ℕ) (w : List ℕ) : Type 0 where
  pub symbol : (j : ℕ) → j < n → place w j < 2 ^ p

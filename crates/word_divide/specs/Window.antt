-- Division in place: what it asks, its step, which adds a row of a table to a part of an array, and what it gives.
-- Assumes nothing.
use Rattle.std.specs.Prelude.{◌≡◌, List, ℕ, ◌+◌, ◌-◌, ◌≤◌, ◌<◌, length}
use Rattle.std.specs.Int.Bits.{bit_xor}
use Rattle.spec_field.specs.Symbols.{gf}
use Rattle.spec_word.specs.Division.{coefficients, remainder, quotient}
use Rattle.word_array.specs.Stored.{place, Sizes, Stored}
use Rattle.word_table.specs.Multiples.{Multiples}

-- v has k symbols to divide, t the multiples of a word whose first d places are those of the divisor, which has degree d
pub record Dividend (stride span p n d k : ℕ) (t v : List ℕ) : Type 0 where
  pub sizes : Sizes p n
  pub degree_pos : 1 ≤ d
  pub degree_lt : d < n
  pub k_low : d ≤ k
  pub k_high : k ≤ n + 1
  pub n_fits : n < span
  pub span_high : span ≤ stride
  pub symbols : Stored p k v
  pub multiples : Multiples stride p n t
  pub long : n + span ≤ length v

-- v is v₀ with `count` places of t, from `from` on, added to those from i on
pub record AddedAt (t : List ℕ) (from i count : ℕ) (v₀ v : List ℕ) : Type 0 where
  pub long : length v ≡ length v₀
  pub low : (k : ℕ) → k < i → place v k ≡ place v₀ k
  pub added : (j : ℕ) → j < count → place v (i + j) ≡ bit_xor (place v₀ (i + j)) (place t (from + j))
  pub high : (k : ℕ) → i + count ≤ k → place v k ≡ place v₀ k

-- r starts with the remainder of the k coefficients of w by g, of degree d
pub record Remains (p k d : ℕ) (g w : ℕ → ℕ) (r : List ℕ) : Type 0 where
  pub places : (j : ℕ) → j < d → place r j ≡ coefficients (remainder (gf p) d g k w) j

-- q starts with the quotient of the k coefficients of w by g, of degree d, and r with the remainder
pub record DividedBy (p k d : ℕ) (g w : ℕ → ℕ) (q r : List ℕ) : Type 0 where
  pub remains : Remains p k d g w r
  pub places : (i : ℕ) → i < k - d → place q i ≡ coefficients (quotient (gf p) d g k w) i

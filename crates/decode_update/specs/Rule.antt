-- The two counts of the update rule, and what they admit.
-- Assumes nothing.
use Rattle.std.specs.Prelude.{◌≡◌, cond, ◌&&◌, List, ℕ, ◌≤◌, ◌<◌, leb, ltb, length}
use Rattle.spec_range.specs.Fold.{count}
use Rattle.word_array.specs.Stored.{place}

-- how many of the first n numbers are at most x, and how many at least x
unfoldable pub at_most : ℕ → List ℕ → ℕ → ℕ
at_most n a x = count n (λ k. leb (place a k) x)

unfoldable pub at_least : ℕ → List ℕ → ℕ → ℕ
at_least n a x = count n (λ k. leb x (place a k))

-- the symbol e where neither count passes `places`, else 0
unfoldable pub admitted : ℕ → ℕ → ℕ → ℕ → ℕ
admitted places low high e = cond (leb low places && leb high places) e 0

-- the first n numbers of a list in 256 places, and in the others the number x, which none is past
pub record Widened (n : ℕ) (a : List ℕ) (x : ℕ) (w : List ℕ) : Type 0 where
  pub long : length w ≡ 256
  pub at : (k : ℕ) → k < n → place w k ≡ place a k
  pub rest : (k : ℕ) → n ≤ k → k < 256 → place w k ≡ x
  pub most : (k : ℕ) → k < 256 → place w k ≤ x

-- t is the least number that more than `most` of the first n numbers are at most; `size` is the bound of numbers
pub record Limit (size n : ℕ) (a : List ℕ) (most t : ℕ) : Type 0 where
  pub within : t < size
  pub test : (x : ℕ) → x < size → leb (at_most n a x) most ≡ ltb x t

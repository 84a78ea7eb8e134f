-- Sums of the rows of a table of multiples that the terms of a dual word tell: rows have `stride` places, of which `span` are read.
-- Assumes nothing.
use Rattle.std.specs.Prelude.{List, ℕ, ◌+◌, ◌-◌, ◌*◌, ◌/◌, ◌%◌, ◌≤◌, ◌<◌, length}
use Rattle.std.specs.Int.Bits.{bit_xor}
use Rattle.spec_range.specs.Fold.{fold}
use Rattle.word_array.specs.Stored.{place}
use Rattle.matrix_terms.specs.Terms.{weight_in}

-- where the row of term i from `from` on starts: that of its symbol, which is the power of its logarithm, turned by its place
abbrev pub start_of : ℕ → ℕ → List ℕ → ℕ → ℕ → ℕ
start_of stride n terms from i = stride * place terms (64 + place terms (from + i) / stride) + (n - place terms (from + i) % stride)

-- place j of the sum of these rows over all terms
unfoldable pub terms_sum : ℕ → ℕ → List ℕ → ℕ → List ℕ → ℕ → ℕ
terms_sum stride n terms from t j = fold bit_xor 0 (weight_in terms) (λ i. place t (start_of stride n terms from i + j))

-- the terms from `from` on and their powers lie in the room, and t has the row of each
pub record Summands (stride span n : ℕ) (terms : List ℕ) (from : ℕ) (t : List ℕ) : Type 0 where
  pub long : 0 < length terms
  pub within : from + weight_in terms ≤ length terms
  pub power_in : (i : ℕ) → i < weight_in terms → 64 + place terms (from + i) / stride < length terms
  pub place_lt : (i : ℕ) → i < weight_in terms → place terms (from + i) % stride < n
  pub start_in : (i : ℕ) → i < weight_in terms → start_of stride n terms from i + span ≤ length t

-- Sums of a table's rows of `stride` places, of which `span` are read.
-- Assumes nothing.
use Rattle.std.specs.Prelude.{List, ℕ, ◌+◌, ◌-◌, ◌*◌, ◌≤◌, ◌<◌, length}
use Rattle.std.specs.Int.Bits.{bit_xor}
use Rattle.spec_range.specs.Fold.{fold}
use Rattle.word_array.specs.Stored.{place}

-- place j of the row of b's symbol at u, turned by u of n places
abbrev pub turned : ℕ → ℕ → (ℕ → ℕ) → List ℕ → ℕ → ℕ → ℕ
turned stride n b t j u = place t (stride * b u + (n - u) + j)

-- place j of the sum of these rows over the first `count` places of b
unfoldable pub turned_sum : ℕ → ℕ → ℕ → (ℕ → ℕ) → List ℕ → ℕ → ℕ
turned_sum stride n count b t j = fold bit_xor 0 count (turned stride n b t j)

-- the `count` bytes of s from `start` on are places of a word of n symbols, and t has a row for each, of which `span` places are read from any of the word's on
pub record Summands (stride span n count : ℕ) (s : List ℕ) (start : ℕ) (t : List ℕ) : Type 0 where
  pub fits : n + span ≤ stride
  pub within : count ≤ n
  pub room : start + count ≤ length s
  pub row : (u : ℕ) → u < count → stride * place s (start + u) + stride ≤ length t

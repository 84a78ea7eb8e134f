-- What a burst makes behind the C boundary, where its matrix is a local buffer.
-- Assumes nothing.
use Rattle.std.specs.Prelude.{List, ℕ}
use Rattle.spec_decoding.specs.Decode.{Result}
use Rattle.burst.specs.Said.{Outcome, Answered}

-- the burst r was made, with some matrix
pub record Made (number words : ℕ) (word : ℕ → Result) (answers₀ : List ℕ) (r : Outcome) (answers : List ℕ) : Type 0 where
  pub entries₀ : List ℕ
  pub entries : List ℕ
  pub answered : Answered number words word answers₀ entries₀ r answers entries

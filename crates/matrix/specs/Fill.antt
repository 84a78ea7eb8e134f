-- What filling the matrix asks of a book's bytes and of the numbers read off them.
-- Assumes nothing.
use Rattle.std.specs.Prelude.{◌≡◌, List, ℕ}
use Rattle.spec_book.specs.Layout.{duals_in, symbol_digits, word_length}
use Rattle.spec_book.specs.Conditions.{refusal}

-- the bytes are accepted, and p, n and L are theirs
pub record Fillable (bytes : List ℕ) (p n duals : ℕ) : Type 0 where
  pub accepted : refusal bytes ≡ 0
  pub p_is : p ≡ symbol_digits bytes
  pub n_is : n ≡ word_length bytes
  pub duals_is : duals ≡ duals_in bytes

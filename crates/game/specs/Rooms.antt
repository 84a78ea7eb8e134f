-- The room for a game's words and matrices, large enough if the book is accepted.
-- Assumes nothing.
use Rattle.std.specs.Prelude.{◌≡◌, List, ℕ, ◌*◌, ◌≤◌, length}
use Rattle.spec_book.specs.Layout.{book_of}
use Rattle.spec_book.specs.Conditions.{refusal}
use Rattle.spec_operations.specs.Decoding.{matrix_size}
use Rattle.decode_rounds.specs.Rounds.{RoomsFit}

-- room for a matrix
pub record MatrixRoom (bytes entries : List ℕ) : Type 0 where
  pub matrix_long : refusal bytes ≡ 0 → matrix_size bytes ≤ length entries

-- room for sixteen words
pub record AnswersRoom (bytes answers : List ℕ) : Type 0 where
  pub answers_long : refusal bytes ≡ 0 → (book_of bytes).n * 16 ≤ length answers

-- rooms of so many terms, of so many places for a table and for answer words, and of so many entries for a matrix, suffice
pub record GameFits (bytes : List ℕ) (terms table places entries : ℕ) : Type 0 where
  pub rooms_fit : RoomsFit bytes terms table
  pub places_fit : refusal bytes ≡ 0 → (book_of bytes).n * 16 ≤ places
  pub places_most : places ≤ 4080
  pub entries_fit : refusal bytes ≡ 0 → matrix_size bytes ≤ entries
  pub entries_most : entries ≤ 4080

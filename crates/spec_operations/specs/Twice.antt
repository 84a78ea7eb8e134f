-- SCOPE 5.10: Demand 3, about two calls of decode.
-- Assumes nothing.
use Rattle.std.specs.Prelude.{◌≡◌, List, ℕ, ◌*◌, ◌<◌, T}
use Rattle.spec_field.specs.Field.{FieldOps}
use Rattle.spec_field.specs.Answer.{Answer, done}
use Rattle.spec_word.specs.Word.{IsWord, at}
use Rattle.spec_book.specs.Book.{Book, is_code_word}
use Rattle.spec_book.specs.Layout.{field_of, book_of}
use Rattle.spec_book.specs.Conditions.{refusal}
use Rattle.spec_decoding.specs.Decode.{Result}
use Rattle.spec_decoding.specs.Symmetry.{move, Moved}
use Rattle.spec_operations.specs.Decoding.{values}

module _ (bytes : List ℕ) where
  -- SCOPE 1.1: the field of the book
  abbrev F : FieldOps
  F = field_of bytes

  -- SCOPE 3.1: the book
  abbrev B : Book
  B = book_of bytes

  -- SCOPE 5.10: what the two calls are given: words r and r', outputs of these sizes
  pub record Given (t c : ℕ) (v r r' : List ℕ) (answer entries answer' entries' : ℕ) : Type 0 where
    -- SCOPE 5.10: the codebook of both calls is accepted, and the outputs of both have the exact sizes
    pub accepted : refusal bytes ≡ 0
    pub answer_size : answer ≡ B.n
    pub entries_size : entries ≡ F.q * B.n
    pub answer-size' : answer' ≡ B.n
    pub entries-size' : entries' ≡ F.q * B.n
    -- SCOPE 5.11: the first call gets any word r of the book
    pub word : IsWord F B.n r
    -- SCOPE 5.11: the second gets r moved by t, a nonzero symbol c and a code word v
    pub nonzero : 0 < c
    pub symbol : c < F.q
    pub added : IsWord F B.n v
    pub code : T (is_code_word F B (at B.n v))
    pub moved : r' ≡ move F B.n t c v r

  -- SCOPE 5.10: what a call that is not refused answers and writes is the result x
  pub record Shows (x : Result) (a : Answer) (answer entries : List ℕ) : Type 0 where
    pub answers : a ≡ done (values x)
    pub answer_is : answer ≡ x.answer
    pub entries_is : entries ≡ x.entries

  -- SCOPE 5.13 to 5.15: what the two calls answer, a and a', and write: the second result is the first one moved
  pub record Related (t c : ℕ) (v : List ℕ) (a a' : Answer) (answer answer' entries entries' : List ℕ) : Type 0 where
    pub x : Result
    pub x' : Result
    pub first : Shows x a answer entries
    pub second : Shows x' a' answer' entries'
    pub moved : Moved F B t c v x x'

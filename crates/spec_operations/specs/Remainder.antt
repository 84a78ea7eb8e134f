-- SCOPE 4.32: Remainder, for all inputs: its refusals in the table's order, and what it writes; and what holds of two calls of it.
-- Assumes nothing.
use Rattle.std.specs.Prelude.{◌≡◌, Bool, List, [], ℕ, T, eqb, length}
use Rattle.spec_range.specs.Table.{table}
use Rattle.spec_field.specs.Field.{FieldOps}
use Rattle.spec_field.specs.Answer.{Answer, done, or_else}
use Rattle.spec_word.specs.Word.{IsWord, at, plus}
use Rattle.spec_book.specs.Book.{Book, remainder_by, is_code_word}
use Rattle.spec_book.specs.Layout.{field_of, book_of}
use Rattle.spec_book.specs.Conditions.{refusal, input_refusal}

module _ (bytes : List ℕ) where
  -- SCOPE 1.1: the field of the book
  abbrev F : FieldOps
  F = field_of bytes

  -- SCOPE 3.1: the book
  abbrev B : Book
  B = book_of bytes

  -- SCOPE 7.18: remainder, once the book is accepted: 9 to 11 for n symbols and an output of n − k bytes, which is the degree
  unfoldable pub remainder_input_refusal : List ℕ → ℕ → ℕ
  remainder_input_refusal w room = input_refusal F.q (eqb (length w) B.n) (eqb room B.degree) w

  -- SCOPE 7.18: remainder: 1 to 8, then these
  unfoldable pub remainder_refusal : List ℕ → ℕ → ℕ
  remainder_refusal w room = or_else (refusal bytes) (remainder_input_refusal w room)

  -- SCOPE 4.32: what remainder writes
  abbrev pub remainder_of : List ℕ → List ℕ
  remainder_of w = remainder_by F B (at B.n w)

  -- ---- two calls

  -- SCOPE 5.18: what the two calls are given: two words of an accepted book, and outputs of these sizes
  pub record GivenTwo (w w' : List ℕ) (room room' : ℕ) : Type 0 where
    pub accepted : refusal bytes ≡ 0
    pub word : IsWord F B.n w
    pub word' : IsWord F B.n w'
    pub size : room ≡ B.degree
    pub size' : room' ≡ B.degree

  -- SCOPE 5.18: two words differ by a code word: their difference, which is their sum (1.3), is one
  abbrev pub differ_by_code : List ℕ → List ℕ → Bool
  differ_by_code w w' = is_code_word F B (at B.n (plus F B.n w w'))

  -- SCOPE 5.18 to 5.20: what the two calls answer, a and a', and the remainders R and R' that they write
  pub record Sorted (w w' : List ℕ) (a a' : Answer) (R R' : List ℕ) : Type 0 where
    pub first_done : a ≡ done []
    pub second_done : a' ≡ done []
    -- SCOPE 5.18: they are equal exactly if the words differ by a code word
    pub equal : T (differ_by_code w w') → R ≡ R'
    pub differ : R ≡ R' → T (differ_by_code w w')
    -- SCOPE 5.19: the remainder is zero exactly if the word is a code word
    pub zero : T (is_code_word F B (at B.n w)) → R ≡ table B.degree (λ i. 0)
    pub code : R ≡ table B.degree (λ i. 0) → T (is_code_word F B (at B.n w))
    -- SCOPE 5.20: where the second word is the first plus a code word v, its remainder is the first's
    pub added : (v : List ℕ) → IsWord F B.n v → T (is_code_word F B (at B.n v)) → w' ≡ plus F B.n w v → R' ≡ R

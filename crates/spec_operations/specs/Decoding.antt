-- SCOPE 4.7 to 4.30: Matrix and decode, for all inputs: the refusals of each in the table's order, and what it answers and writes.
-- Assumes nothing.
use Rattle.std.specs.Prelude.{◌≡◌, ◌&&◌, List, [], ◌∷◌, ℕ, ◌*◌, eqb, length}
use Rattle.spec_field.specs.Field.{FieldOps}
use Rattle.spec_field.specs.Answer.{Answer, answer, or_else, left}
use Rattle.spec_word.specs.Word.{at}
use Rattle.spec_book.specs.Book.{Book}
use Rattle.spec_book.specs.Layout.{field_of, book_of}
use Rattle.spec_book.specs.Conditions.{refusal, input_refusal}
use Rattle.spec_decoding.specs.Matrix.{matrix}
use Rattle.spec_decoding.specs.Decode.{Result, letter, decode}

module _ (bytes : List ℕ) where
  -- SCOPE 1.1: the field of the book
  abbrev F : FieldOps
  F = field_of bytes

  -- SCOPE 3.1: the book
  abbrev B : Book
  B = book_of bytes

  -- SCOPE 7.17: the exact size of a matrix, q × n entries
  abbrev pub matrix_size : ℕ
  matrix_size = F.q * B.n

  -- SCOPE 7.18: matrix: 9 to 11 for n symbols and q × n entries
  unfoldable pub matrix_input_refusal : List ℕ → ℕ → ℕ
  matrix_input_refusal r entries = input_refusal F.q (eqb (length r) B.n) (eqb entries matrix_size) r

  -- SCOPE 7.18: matrix: 1 to 8, then 9 to 11
  unfoldable pub matrix_refusal : List ℕ → ℕ → ℕ
  matrix_refusal r entries = or_else (refusal bytes) (matrix_input_refusal r entries)

  -- SCOPE 4.13: what matrix writes
  abbrev pub matrix_bytes : List ℕ → List ℕ
  matrix_bytes r = matrix F B (at B.n r)

  -- SCOPE 7.18: decode: 9 to 11 for n symbols, an answer of n bytes and q × n entries
  unfoldable pub decode_input_refusal : List ℕ → ℕ → ℕ → ℕ
  decode_input_refusal r answer entries = input_refusal F.q (eqb (length r) B.n) (eqb answer B.n && eqb entries matrix_size) r

  -- SCOPE 7.18: decode: 1 to 8, then 9 to 11
  unfoldable pub decode_refusal : List ℕ → ℕ → ℕ → ℕ
  decode_refusal r answer entries = or_else (refusal bytes) (decode_input_refusal r answer entries)

  -- SCOPE 4.16: what decode answers and writes
  abbrev pub decode_bytes : List ℕ → Result
  decode_bytes r = decode F B r

-- SCOPE 4.1: the values of a result: changed, rounds and the kind's letter
abbrev pub values : Result → List ℕ
values x = x.changed ∷ x.rounds ∷ letter x.kind ∷ []

-- SCOPE 5.5: a call with first refusal number `number`, and the result x where that is 0: its answer a, and the two buffers in the end
pub record Decodes (number : ℕ) (x : Result) (word₀ entries₀ : List ℕ) (a : Answer) (word entries : List ℕ) : Type 0 where
  pub says : a ≡ answer number (values x)
  pub answer_buffer : word ≡ left number x.answer word₀
  pub matrix_buffer : entries ≡ left number x.entries entries₀

-- SCOPE 4.5, 4.6: Code and read, for all inputs: the refusals of each in the table's order, and what it writes.
-- Assumes nothing.
use Rattle.std.specs.Prelude.{List, ℕ, eqb, length}
use Rattle.spec_field.specs.Field.{FieldOps}
use Rattle.spec_field.specs.Answer.{or_else}
use Rattle.spec_book.specs.Book.{Book, message_length}
use Rattle.spec_book.specs.Layout.{field_of, book_of}
use Rattle.spec_book.specs.Conditions.{refusal, message_fits, input_refusal, code_word_refusal}
use Rattle.spec_coding.specs.Coder.{encode, message}

module _ (bytes : List ℕ) where
  -- SCOPE 1.1: the field of the book
  abbrev F : FieldOps
  F = field_of bytes

  -- SCOPE 3.1: the book
  abbrev B : Book
  B = book_of bytes

  -- SCOPE 7.18: code, once the book is accepted: 9 to 11 for 1 to k symbols and an output of n bytes
  unfoldable pub code_input_refusal : List ℕ → ℕ → ℕ
  code_input_refusal f room = input_refusal F.q (message_fits (message_length B) (length f)) (eqb room B.n) f

  -- SCOPE 7.18: code: 1 to 8, then these
  unfoldable pub code_refusal : List ℕ → ℕ → ℕ
  code_refusal f room = or_else (refusal bytes) (code_input_refusal f room)

  -- SCOPE 4.5: what code writes
  abbrev pub coded : List ℕ → List ℕ
  coded f = encode F B f

  -- SCOPE 7.18: read, once the book is accepted: 9 to 11 for n symbols and an output of k bytes
  unfoldable pub read_input_refusal : List ℕ → ℕ → ℕ
  read_input_refusal w room = input_refusal F.q (eqb (length w) B.n) (eqb room (message_length B)) w

  -- SCOPE 7.18: then 12
  unfoldable pub read_word_refusal : List ℕ → ℕ → ℕ
  read_word_refusal w room = or_else (read_input_refusal w room) (code_word_refusal F B w)

  -- SCOPE 7.18: read: 1 to 8, then these
  unfoldable pub read_refusal : List ℕ → ℕ → ℕ
  read_refusal w room = or_else (refusal bytes) (read_word_refusal w room)

  -- SCOPE 4.6: what read writes
  abbrev pub message_of : List ℕ → List ℕ
  message_of w = message F B w

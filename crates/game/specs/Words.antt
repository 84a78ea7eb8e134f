-- The messages of answer words that stand one after another.
-- Assumes nothing.
use Rattle.std.specs.Prelude.{◌≡◌, List, ℕ, ◌<◌}
use Rattle.spec_word.specs.Mixed.{joined, part}
use Rattle.spec_book.specs.Book.{message_length}
use Rattle.spec_book.specs.Layout.{book_of}
use Rattle.book.specs.Opened.{OpenBook}
use Rattle.book.specs.declared.Params.{Params}
use Rattle.spec_operations.specs.Coding.{read_word_refusal, message_of}

-- each of them can be read
pub record Readable (bytes : List ℕ) (words : ℕ) (answers : List ℕ) : Type 0 where
  pub can_read : (m : ℕ) → m < words → read_word_refusal bytes (part (book_of bytes).n answers m) (message_length (book_of bytes)) ≡ 0

-- an opened book, whichever bytes hold it, and answer words that can be read
pub record SomeWords (c : Params) (t : List ℕ) (words : ℕ) (answers : List ℕ) : Type 0 where
  pub bytes : List ℕ
  pub open_book : OpenBook bytes c t
  pub readable : Readable bytes words answers

-- what is read of each, one after another
abbrev pub messages_in : List ℕ → ℕ → List ℕ → List ℕ
messages_in bytes words answers = joined words (λ m. message_of bytes (part (book_of bytes).n answers m))

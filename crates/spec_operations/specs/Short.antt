-- SCOPE 5.21: Two calls of code, with a message and with the same written out.
-- Assumes nothing.
use Rattle.std.specs.Prelude.{◌≡◌, List, [], ℕ, T, length}
use Rattle.spec_field.specs.Answer.{Answer, done}
use Rattle.spec_book.specs.Book.{message_length}
use Rattle.spec_book.specs.Layout.{book_of}
use Rattle.spec_book.specs.Conditions.{message_fits}
use Rattle.spec_coding.specs.Coder.{written_out}

-- SCOPE 5.21: what the two calls are given: a message of 1 to k symbols, the same written out, and outputs of one size
pub record GivenWrittenOut (bytes f f' : List ℕ) (room room' : ℕ) : Type 0 where
  pub fits : T (message_fits (message_length (book_of bytes)) (length f))
  pub written_out : f' ≡ written_out (book_of bytes) f
  pub same_room : room ≡ room'

-- SCOPE 5.21: the two calls answer the same, and where they are not refused they leave the same word
pub record SameWord (a a' : Answer) (w w' : List ℕ) : Type 0 where
  pub same_answer : a ≡ a'
  pub same_word : a ≡ done [] → w ≡ w'

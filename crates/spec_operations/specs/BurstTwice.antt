-- SCOPE 5.24: Demand 3 of every word of a burst, about two bursts.
-- Assumes nothing.
use Rattle.std.specs.Prelude.{◌≡◌, List, [], ℕ, pred, ◌+◌, ◌*◌, ◌%◌, ◌<◌, T, get_or}
use Rattle.spec_field.specs.Field.{FieldOps}
use Rattle.spec_field.specs.Answer.{Answer, done}
use Rattle.spec_word.specs.Word.{IsWord, at}
use Rattle.spec_word.specs.Mixed.{mixed, part}
use Rattle.spec_book.specs.Book.{Book, is_code_word}
use Rattle.spec_book.specs.Layout.{field_of, book_of}
use Rattle.spec_book.specs.Conditions.{refusal, words_ok}
use Rattle.spec_decoding.specs.Symmetry.{move}
use Rattle.spec_operations.specs.Decoding.{matrix_size}
use Rattle.spec_operations.specs.Burst.{burst_size}

module _ (bytes : List ℕ) where
  -- SCOPE 1.1: the field of the book
  abbrev F : FieldOps
  F = field_of bytes

  -- SCOPE 3.1: the book
  abbrev B : Book
  B = book_of bytes

  -- SCOPE 7.17: the outputs of a burst have the exact sizes
  pub record BurstSizes (words answers list entries : ℕ) : Type 0 where
    pub answers_size : answers ≡ burst_size bytes words
    pub list_size : list ≡ words
    pub entries_size : entries ≡ matrix_size bytes

  -- SCOPE 5.24: what the two bursts r and r' are given: words of one book, mixed, and the same words, each moved by a turn, a factor and a code word of its own
  pub record GivenBursts (words : ℕ) (w : ℕ → List ℕ) (t c : ℕ → ℕ) (v : ℕ → List ℕ) (r r' : List ℕ) : Type 0 where
    pub accepted : refusal bytes ≡ 0
    pub count : T (words_ok words)
    pub word : (m : ℕ) → m < words → IsWord F B.n (w m)
    pub nonzero : (m : ℕ) → m < words → 0 < c m
    pub symbol : (m : ℕ) → m < words → c m < F.q
    pub added : (m : ℕ) → m < words → IsWord F B.n (v m)
    pub code : (m : ℕ) → m < words → T (is_code_word F B (at B.n (v m)))
    pub first : r ≡ mixed B.n words w
    pub second : r' ≡ mixed B.n words (λ m. move F B.n (t m) (c m) (v m) (w m))

  -- SCOPE 5.24: what the two bursts answer, a and a', list and write
  pub record RelatedBursts (words : ℕ) (t c : ℕ → ℕ) (v : ℕ → List ℕ) (a a' : Answer) (answers answers' records records' entries entries' : List ℕ) : Type 0 where
    pub first_done : a ≡ done []
    pub second_done : a' ≡ done []
    -- SCOPE 5.13: one kind, as many rounds and as many changed places of every word
    pub same-records : records' ≡ records
    -- SCOPE 5.14: answer word m is moved as received word m was
    pub moved-answers : (m : ℕ) → m < words → part B.n answers' m ≡ move F B.n (t m) (c m) (v m) (part B.n answers m)
    -- SCOPE 5.15: the matrix is moved by the last word's turn and symbol
    pub moved_entries : (i j : ℕ) → i < F.q → j < B.n
        → get_or entries' (F.mul (c (pred words)) i * B.n + (j + t (pred words)) % B.n) 0 ≡ get_or entries (i * B.n + j) 0

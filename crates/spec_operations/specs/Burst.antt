-- SCOPE 4.36 to 4.40: Burst, for all inputs: its refusals in the table's order, and what it answers and writes.
-- Assumes nothing.
use Rattle.std.specs.Prelude.{◌≡◌, ◌&&◌, List, [], ◌∷◌, ℕ, pred, ◌*◌, eqb, length}
use Rattle.spec_field.specs.Field.{FieldOps}
use Rattle.spec_field.specs.Answer.{Answer, answer, or_else, left}
use Rattle.spec_word.specs.Mixed.{unmixed, joined}
use Rattle.spec_book.specs.Book.{Book}
use Rattle.spec_book.specs.Layout.{field_of, book_of}
use Rattle.spec_book.specs.Conditions.{refusal, unless, words_ok, input_refusal}
use Rattle.spec_decoding.specs.Decode.{Result, letter}
use Rattle.spec_operations.specs.Decoding.{matrix_size, decode_bytes}
use Rattle.spec_operations.specs.Packed.{Returns}

module _ (bytes : List ℕ) where
  -- SCOPE 1.1: the field of the book
  abbrev F : FieldOps
  F = field_of bytes

  -- SCOPE 3.1: the book
  abbrev B : Book
  B = book_of bytes

  -- SCOPE 7.17: the exact size of a burst's input, and of its answer words: n × M
  abbrev pub burst_size : ℕ → ℕ
  burst_size words = B.n * words

  -- SCOPE 7.18: burst, once the book is accepted: 14 for M words; 9 to 11 for n × M symbols, n × M bytes of answers, M records and q × n entries
  unfoldable pub burst_input_refusal : ℕ → List ℕ → ℕ → ℕ → ℕ → ℕ
  burst_input_refusal words r answers list entries =
      unless (words_ok words) 14
      (input_refusal F.q (eqb (length r) (burst_size words))
      (eqb answers (burst_size words) && eqb list words && eqb entries (matrix_size bytes)) r)

  -- SCOPE 7.18: burst: 1 to 8, then these
  unfoldable pub burst_refusal : ℕ → List ℕ → ℕ → ℕ → ℕ → ℕ
  burst_refusal words r answers list entries = or_else (refusal bytes) (burst_input_refusal words r answers list entries)

  -- SCOPE 4.37: the result for word m: that of decoding it singly
  abbrev pub burst_word : ℕ → List ℕ → ℕ → Result
  burst_word words r m = decode_bytes bytes (unmixed B.n words r m)

-- SCOPE 4.39: a record: the letter of the kind, rounds and changed
abbrev pub record_of : Result → List ℕ
record_of x = letter x.kind ∷ x.rounds ∷ x.changed ∷ []

-- SCOPE 4.38: the answer words of M results, one after another
abbrev pub answers_of : ℕ → (ℕ → Result) → List ℕ
answers_of words word = joined words (λ m. (word m).answer)

-- SCOPE 4.39: their records, one after another
abbrev pub records_of : ℕ → (ℕ → Result) → List ℕ
records_of words word = joined words (λ m. record_of (word m))

-- SCOPE 4.40: the matrix of the last of them
abbrev pub last_entries : ℕ → (ℕ → Result) → List ℕ
last_entries words word = (word (pred words)).entries

-- SCOPE 5.22: a burst with first refusal number `number`, and the results of its words where that is 0: its answer a, the list of records and the two buffers in the end
pub record Bursts (number words : ℕ) (word : ℕ → Result) (answers₀ records₀ entries₀ : List ℕ) (a : Answer) (answers records entries : List ℕ) : Type 0 where
  pub says : a ≡ answer number []
  pub answers_buffer : answers ≡ left number (answers_of words word) answers₀
  pub records_list : records ≡ left number (records_of words word) records₀
  pub matrix_buffer : entries ≡ left number (last_entries words word) entries₀

-- SCOPE 5.22: what a burst over C returns and leaves, for all inputs: the result, the answers and the bytes of the list of records
pub record ReturnsBurst (number words : ℕ) (word : ℕ → Result) (answers₀ records₀ : List ℕ) (r : ℕ) (answers records : List ℕ) : Type 0 where
  pub with_answers : Returns number [] (answers_of words word) answers₀ r answers
  pub with_records : Returns number [] (records_of words word) records₀ r records

-- SCOPE 4: Code and read.
-- Assumes nothing.
use Rattle.std.specs.Prelude.{List, ◌++◌, ℕ, ◌-◌, ◌%◌, length, replicate}
use Rattle.spec_range.specs.Table.{table}
use Rattle.spec_field.specs.Field.{FieldOps}
use Rattle.spec_word.specs.Word.{at, product}
use Rattle.spec_word.specs.Division.{coefficients, quotient}
use Rattle.spec_book.specs.Book.{Book, message_length}

-- SCOPE 4.34: a message written out: its symbols, and then zeros for the high ones that it lacks, k in all
unfoldable pub written_out : Book → List ℕ → List ℕ
written_out B f = f ++ replicate (message_length B - length f) 0

module _ (F : FieldOps) (B : Book) where
  open B use {n, degree, generator}

  -- SCOPE 4.5: the code word of a message f: its product with the generator; a symbol that f lacks is zero
  unfoldable pub encode : List ℕ → List ℕ
  encode f = table n (product F n (coefficients f) (λ j. generator (j % n)))

  -- SCOPE 4.6: the message of a code word: k symbols of its quotient by the generator
  unfoldable pub message : List ℕ → List ℕ
  message w = let Q = quotient F degree generator n (at n w) in table (message_length B) (coefficients Q)

-- SCOPE 5.10: Demand 3, as a statement of two results.
-- Assumes nothing.
use Rattle.std.specs.Prelude.{◌≡◌, List, ℕ, ◌+◌, ◌*◌, ◌%◌, ◌<◌, get_or}
use Rattle.spec_field.specs.Field.{FieldOps}
use Rattle.spec_word.specs.Word.{turn, scale, plus}
use Rattle.spec_book.specs.Book.{Book}
use Rattle.spec_decoding.specs.Decode.{Result}

-- SCOPE 5.11: the moved word: turned by t, times c, plus v, in this order
unfoldable pub move : FieldOps → ℕ → ℕ → ℕ → List ℕ → List ℕ → List ℕ
move F n t c v w = plus F n (scale F n c (turn n t w)) v

-- SCOPE 5.10: y is the result for the moved word, where x is the result for the word: `place` moves places, `symbol` symbols and `word` words
pub record MovedBy (F : FieldOps) (B : Book) (place symbol : ℕ → ℕ) (word : List ℕ → List ℕ) (x y : Result) : Type 0 where
  -- SCOPE 5.13: one kind of answer
  pub same_kind : y.kind ≡ x.kind
  pub same_rounds : y.rounds ≡ x.rounds
  pub same_changed : y.changed ≡ x.changed
  -- SCOPE 5.14: the answer word is moved as the received word was
  pub moved_answer : y.answer ≡ word x.answer
  -- SCOPE 5.15: row i, column j of x's matrix is found in the row and the column of y's to which i and j are moved
  pub moved_entries : (i j : ℕ) → i < F.q → j < B.n
      → get_or y.entries (symbol i * B.n + place j) 0 ≡ get_or x.entries (i * B.n + j) 0

-- SCOPE 5.10: demand 3 moves place j to (j + t) mod n (5.15), symbol i to c × i (5.15), and words by `move`
abbrev pub Moved : FieldOps → Book → ℕ → ℕ → List ℕ → Result → Result → Type 0
Moved F B t c v x y = MovedBy F B (λ j. (j + t) % B.n) (F.mul c) (move F B.n t c v) x y

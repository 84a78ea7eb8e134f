-- SCOPE 4.7: The frequency matrix of a word: check values, and how often each is found.
-- Assumes nothing.
use Rattle.std.specs.Prelude.{cond, ◌&&◌, List, ℕ, ◌+◌, ◌-◌, ◌*◌, ◌/◌, ◌%◌, eqb, get_or}
use Rattle.spec_range.specs.Fold.{total}
use Rattle.spec_range.specs.Table.{table}
use Rattle.spec_field.specs.Field.{FieldOps}
use Rattle.spec_word.specs.Word.{nonzero, sum}
use Rattle.spec_book.specs.Book.{Book}

module _ (F : FieldOps) (B : Book) where
  open F use {q, mul as ◌⊗◌, inv}
  open B use {n, dual_count, dual}

  infixl 70 ◌⊗◌
  -- SCOPE 4.8: the sum over the nonzero places u of b: b's symbol at u times r's at (j + h - u) mod n
  unfoldable pub check_sum : (ℕ → ℕ) → (ℕ → ℕ) → ℕ → ℕ → ℕ
  check_sum b r h j = sum F n (λ u. cond (nonzero (b u)) (b u ⊗ r (j + h + (n - u))) 0)

  -- SCOPE 4.10: the sum divided by b's symbol at h
  unfoldable pub check_value : (ℕ → ℕ) → (ℕ → ℕ) → ℕ → ℕ → ℕ
  check_value b r h j = inv (b h) ⊗ check_sum b r h j

  -- SCOPE 4.12: what the dual word b adds in row i, column j: each place h with b not zero at h and check value i at j adds `amount h j`
  unfoldable pub dual_entry : (ℕ → ℕ → ℕ) → (ℕ → ℕ) → (ℕ → ℕ) → ℕ → ℕ → ℕ
  dual_entry amount b r i j = total n (λ h. cond (nonzero (b h) && eqb (check_value b r h j) i) (amount h j) 0)

  -- SCOPE 4.12: row i, column j: what all the dual words add, where the choice (l, h) adds `amount l h j`
  unfoldable pub entry_of : (ℕ → ℕ → ℕ → ℕ) → (ℕ → ℕ) → ℕ → ℕ → ℕ
  entry_of amount r i j = total dual_count (λ l. dual_entry (amount l) (dual l) r i j)

  -- SCOPE 4.13: the q × n entries, that of row i and column j at i × n + j
  unfoldable pub matrix_of : (ℕ → ℕ → ℕ → ℕ) → (ℕ → ℕ) → List ℕ
  matrix_of amount r = table (q * n) (λ k. entry_of amount r (k / n) (k % n))

  -- SCOPE 4.11: how many choices have check value i at j: each adds 1
  abbrev pub entry : (ℕ → ℕ) → ℕ → ℕ → ℕ
  entry r = entry_of (λ l h j. 1) r

  -- SCOPE 4.11: the frequency matrix: each choice adds 1
  abbrev pub matrix : (ℕ → ℕ) → List ℕ
  matrix r = matrix_of (λ l h j. 1) r

  -- SCOPE 4.13: the entry in row i and column j mod n of a matrix
  unfoldable pub cell : List ℕ → ℕ → ℕ → ℕ
  cell m i j = get_or m (i * n + j % n) 0

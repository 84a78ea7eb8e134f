-- The peaks of a matrix's columns as the rows are taken one by one. A column is a function of its rows from row 1 on: k is the row of symbol 1 + k.
-- Assumes nothing.
use Rattle.std.specs.Prelude.{◌≡◌, cond, List, ℕ, suc, pred, ◌+◌, ◌*◌, max, ◌≤◌, ◌<◌, eqb, ltb, length}
use Rattle.spec_range.specs.Fold.{count, largest}
use Rattle.word_array.specs.Stored.{place}

-- how many of the first c rows have the entry x
unfoldable pub rows_with : ℕ → (ℕ → ℕ) → ℕ → ℕ
rows_with c f x = count c (λ k. eqb (f k) x)

-- the symbol of a column of c rows whose peak is y: the one that alone has it, or 0 where the peak is 0 or shared
pub data Sole (c : ℕ) (f : ℕ → ℕ) (y : ℕ) : ℕ → Type 0 where
  none : y ≡ 0 → Sole c f y 0
  shared : 2 ≤ rows_with c f y → Sole c f y 0
  alone : {k : ℕ} → k < c → f k ≡ y → 1 ≤ y → rows_with c f y ≡ 1 → Sole c f y (suc k)

-- column j of a matrix of rows of n entries
unfoldable pub column : ℕ → List ℕ → ℕ → ℕ → ℕ
column n m j k = place m (suc k * n + j)

-- rows 1 to i - 1 of the matrix are taken
pub record Peaked (n : ℕ) (m : List ℕ) (i : ℕ) (counts symbols : List ℕ) : Type 0 where
  pub count_at : (j : ℕ) → j < n → place counts j ≡ largest (pred i) (column n m j)
  pub symbol_at : (j : ℕ) → j < n → Sole (pred i) (column n m j) (place counts j) (place symbols j)

-- the symbol of a column with the peak `count` after the row of one more symbol, whose entry is x
unfoldable pub climbed : ℕ → ℕ → ℕ → ℕ → ℕ
climbed count symbol x row = cond (ltb count x) row (cond (ltb x count) symbol 0)

-- one more row is taken, that of the symbol s
pub record Taken (row : List ℕ) (s : ℕ) (counts symbols counts' symbols' : List ℕ) : Type 0 where
  pub counts_long : length counts' ≡ length counts
  pub symbols_long : length symbols' ≡ length symbols
  pub count_at : (j : ℕ) → j < length row → place counts' j ≡ max (place counts j) (place row j)
  pub symbol_at : (j : ℕ) → j < length row → place symbols' j ≡ climbed (place counts j) (place symbols j) (place row j) s

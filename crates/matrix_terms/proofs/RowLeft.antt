-- Row 0 of a matrix as what the other rows leave of its columns.
-- Assumes nothing.
use mathlib.Core.Path.{◌≡◌, refl, sym, ap, ◌∙◌, subst}
use mathlib.Core.Bool.{Bool, cond}
use mathlib.Core.List.{List}
use Prim.Native.Nat.{ℕ, zero, suc, ◌+◌, ◌-◌, ◌*◌, ◌^◌, ◌≤◌, ◌<◌, zero-le}
use native.Mathlib.Nat.{le_refl, le_trans, not-suc-le-zero}
use native.Mathlib.Decide.{dec_lt, le_ind}
use native.Mathlib.Omega.{arith}
use borrow.Author.Tests.{lt-ltb, le-ltb}
use lib.Arith.{digits_lt}
use lib.Dec.{ltb}
use lib.ListN.{length, replicate, length-replicate}
use lib.Pow.{pow_pos}
use lib.Seq.{ext_get_or}
use Rattle.spec_range.specs.Fold.{fold, total}
use Rattle.spec_range.specs.Table.{table}
use Rattle.spec_range.proofs.Table.{table-length, table_at, table_same}
use Rattle.spec_range.proofs.Loop.{fold_none, fold_more, Over}
use Rattle.word_array.specs.Stored.{place, Sizes}
use Rattle.matrix_terms.specs.RowZero.{Covers, Subtracted}

-- a sum of more terms is at least the sum of fewer
pub total_grows : (f : ℕ → ℕ) (k n : ℕ) → k ≤ n → total k f ≤ total n f
unfolding fold
total_grows f k n l = le_ind (λ (n : ℕ). total k f ≤ total n f) (le_refl (total k f)) (λ n _ ih. le_trans ih (omega arith)) n l

-- a list written over below n
pub over_front : {n : ℕ} {f : ℕ → ℕ} {w₀ w : List ℕ} → Over n f w₀ w → w ≡ table (length w₀) (λ k. cond (ltb k n) (f k) (place w₀ k))
over_front {n} {f} {w₀} {w} h =
    ext_get_or 0 w (table (length w₀) (λ k. cond (ltb k n) (f k) (place w₀ k))) (h.long ∙ sym (table-length (length w₀) _)) (λ k l.
    go k (dec_lt k n) ∙ sym (table_at (length w₀) _ (subst (λ (x : ℕ). k < x) h.long l)))
  where
    go : (k : ℕ) → Dec (k < n) → place w k ≡ cond (ltb k n) (f k) (place w₀ k)
    go k (yes l) = h.at k l ∙ ap (λ (t : Bool). cond t (f k) (place w₀ k)) (sym (lt-ltb k n l))
    go k (no l) = h.rest k (omega arith) ∙ ap (λ (t : Bool). cond t (f k) (place w₀ k)) (sym (le-ltb k n (omega arith)))

-- ---- one row

-- the next number can be subtracted
pub next_covered : {n from j : ℕ} {m left₀ left : List ℕ} → Covers n from m left₀ → j < n → Over j (λ j. place left₀ j - place m (from + j)) left₀ left
    → place m (from + j) ≤ place left j
next_covered {j = j} ok l h = omega (arith, h.rest j (le_refl j), ok.covers j l)

-- the n numbers are subtracted
pub subtracted : {n from j : ℕ} {m left₀ left : List ℕ} → Covers n from m left₀ → n ≤ j → Over j (λ j. place left₀ j - place m (from + j)) left₀ left
    → Subtracted n from m left₀ left
subtracted ok l h = record { long = h.long ∙ ok.long; less = λ k d. omega (arith, h.at k (omega arith), ok.covers k d) }

-- ---- the rows one after another

-- of `rows` rows from 1 on the first i are subtracted from `all` in each column
pub record RowsLeft (m : List ℕ) (n rows all i : ℕ) (left : List ℕ) : Type 0 where
  pub within : i ≤ rows
  pub long : length left ≡ 256
  pub parts : (j : ℕ) → j < n → place left j + total i (λ i. place m ((1 + i) * n + j)) ≡ all

-- every place of a list of equal numbers
repeated : (size x : ℕ) {k : ℕ} → k < size → place (replicate size x) k ≡ x
repeated zero x l = absurd (not-suc-le-zero l)
repeated (suc size) x {k = zero} l = refl
repeated (suc size) x {k = suc k} l = repeated size x (omega arith)

-- before the first row
pub rows_left_none : (m : List ℕ) (n rows all : ℕ) → n ≤ 255 → RowsLeft m n rows all 0 (replicate 256 all)
rows_left_none m n rows all few =
    record {
      within = zero-le;
      long = length-replicate {A = ℕ} 256 all;
      parts = λ j l. omega (arith, repeated 256 all {k = j} (omega arith), fold_none ◌+◌ 0 (λ i. place m ((1 + i) * n + j)));
    }

module _ {p n : ℕ} (s : Sizes p n) (m : List ℕ) (size : length m ≡ 2 ^ p * n) {rows : ℕ} (most : rows + 1 ≡ 2 ^ p) where
  -- a row from 1 on lies within the matrix
  pub row_within : {i : ℕ} → i < rows → (1 + i) * n + n ≤ length m
  row_within {i} l = omega (arith, digits_lt {q = 1 + i} {m = 2 ^ p} {r = n - 1} {c = n} (omega arith) (omega (arith, s.n_low)), s.n_low)

  module _ {all i : ℕ} {left : List ℕ} (h : RowsLeft m n rows all i left) (l : i < rows) where
    -- what is left covers the next row
    pub rows-left-cover : ((j : ℕ) → j < n → total (2 ^ p - 1) (λ i. place m ((1 + i) * n + j)) ≤ all) → Covers n ((1 + i) * n) m left
    rows-left-cover room =
        record {
          few = s.n_high;
          within = row_within l;
          long = h.long;
          covers = λ j d.
              let f : ℕ → ℕ = λ i. place m ((1 + i) * n + j) in
              omega (arith, h.parts j d, room j d, total_grows f (i + 1) (2 ^ p - 1) (omega arith), fold_more ◌+◌ 0 i f);
        }

    -- one more row
    pub rows-left-more : {left' : List ℕ} → Subtracted n ((1 + i) * n) m left left' → RowsLeft m n rows all (i + 1) left'
    rows-left-more e =
        record {
          within = omega arith;
          long = e.long;
          parts = λ j d. omega (arith, h.parts j d, e.less j d, fold_more ◌+◌ 0 i (λ i. place m ((1 + i) * n + j)));
        }

  -- after the last row
  pub rows_left_end : {all i : ℕ} {left : List ℕ} → RowsLeft m n rows all i left → rows ≤ i
      → (j : ℕ) → j < n → place left j ≡ all - total (2 ^ p - 1) (λ i. place m ((1 + i) * n + j))
  rows_left_end {all} {i} {left} h l j d =
      let e : place left j + total (2 ^ p - 1) (λ i. place m ((1 + i) * n + j)) ≡ all =
      subst (λ (i : ℕ). place left j + total i (λ i. place m ((1 + i) * n + j)) ≡ all) (omega (arith, h.within)) (h.parts j d) in
      omega arith

-- row 0 lies within the matrix
pub row_zero_in : {p n : ℕ} → Sizes p n → (m : List ℕ) → length m ≡ 2 ^ p * n → n ≤ length m
row_zero_in {p} {n} s m size = omega (arith, digits_lt {q = 0} {m = 2 ^ p} {r = n - 1} {c = n} (pow_pos p) (omega (arith, s.n_low)), s.n_low)

-- the row written over row 0
pub row_zero_put : {size n : ℕ} (f : ℕ → ℕ) (m₀ m row : List ℕ) → length m₀ ≡ size → ((k : ℕ) → k < n → place row k ≡ f k)
    → m ≡ table (length m₀) (λ k. cond (ltb k n) (place row k) (place m₀ k)) → m ≡ table size (λ k. cond (ltb k n) (f k) (place m₀ k))
row_zero_put {size} {n} f m₀ m row e same d =
    d ∙ ap (λ (x : ℕ). table x (λ k. cond (ltb k n) (place row k) (place m₀ k))) e ∙ table_same size (λ k _. go k (dec_lt k n))
  where
    go : (k : ℕ) → Dec (k < n) → cond (ltb k n) (place row k) (place m₀ k) ≡ cond (ltb k n) (f k) (place m₀ k)
    go k (yes l) = ap (λ (x : ℕ). cond (ltb k n) x (place m₀ k)) (same k l)
    go k (no l) =
        ap (λ (t : Bool). cond t (place row k) (place m₀ k)) (le-ltb k n (omega arith))
        ∙ sym (ap (λ (t : Bool). cond t (f k) (place m₀ k)) (le-ltb k n (omega arith)))

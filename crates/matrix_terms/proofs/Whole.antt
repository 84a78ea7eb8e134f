-- The whole matrix: each column adds up to the dual words' weights, so that row 0 is what the other rows leave.
-- Assumes nothing.
use mathlib.Core.Path.{◌≡◌, refl, sym, ap, ap₂, ◌∙◌}
use mathlib.Core.Bool.{Bool, true, false, cond, ◌&&◌}
use mathlib.Core.List.{List}
use Prim.Native.Nat.{ℕ, ◌+◌, ◌-◌, ◌*◌, ◌/◌, ◌%◌, ◌^◌, ◌≤◌, ◌<◌}
use native.Mathlib.Nat.{add-zero, mod-lt, mod-eq_of_lt, div-eq_of_lt, div-add-mod', div-lt_iff_lt-mul, mul-le-mul, zero-mul}
use native.Mathlib.Decide.{dec_lt, ℕ_discrete}
use native.Mathlib.Omega.{arith}
use borrow.Author.Tests.{lt-ltb, le-ltb}
use lib.Dec.{eqb, ltb}
use lib.Pow.{pow_pos}
use Rattle.spec_range.specs.Fold.{total, indicator}
use Rattle.spec_range.specs.Table.{table}
use Rattle.spec_range.proofs.Tests.{same_eqb}
use Rattle.spec_range.proofs.Fold.{fold_cong, fold-unit, fold_head, fold-swap, fold-pick, sums}
use Rattle.spec_range.proofs.Count.{total_equal}
use Rattle.spec_range.proofs.Table.{table_same}
use Rattle.spec_field.specs.Symbols.{gf}
use Rattle.spec_field.specs.Symbols as symbols
use Rattle.spec_field.proofs.Gf.{product-below}
use Rattle.spec_word.specs.Word.{nonzero, weight, product}
use Rattle.word_array.specs.Stored.{place, Sizes}
use Rattle.matrix_terms.specs.Count.{place_counts, dual_counts, counted}
use Rattle.matrix_terms.specs.Terms.{Places, Terms, TermsOf, weight_in}

-- ---- one dual word

-- as many places stand in the list as the word's weight tells
pub places_weight : {n : ℕ} {b : ℕ → ℕ} {w : ℕ} → Places n b w → weight n b ≡ w
unfolding weight
places_weight {w = w} h = sym (omega (arith, total_equal w 1 (λ i. 1) (λ i l. refl)) ∙ h.folds ◌+◌ 0 add-zero (λ h. 1))

module _ {p n : ℕ} (s : Sizes p n) where
  -- just one row is that of a symbol v
  one-row : {v : ℕ} → v < 2 ^ p → total (2 ^ p) (λ i. indicator (eqb v i)) ≡ 1
  one-row {v} l =
      fold_cong ◌+◌ 0 (2 ^ p) (λ i _. ap indicator (same_eqb {a = v} {b = i} {c = i} {d = v} sym sym)) ∙ fold-pick ◌+◌ 0 sums (2 ^ p) v l (λ i. 1)

  -- a place counts in one row of a column, where its symbol is not zero
  place-rows : (w : ℕ → ℕ) (b h j : ℕ) → total (2 ^ p) (λ i. place_counts p w b h i j) ≡ indicator (nonzero b)
  unfolding place_counts
  place-rows w b h j = go (nonzero b)
    where
      value : ℕ
      value = symbols.product p (symbols.inverse p b) (w (j + h))

      go : (t : Bool) → total (2 ^ p) (λ i. indicator (t && eqb value i)) ≡ indicator t
      go true = one-row (product-below p s.p_low s.p_high _ _)
      go false = fold-unit ◌+◌ 0 sums (2 ^ p) _ (λ i l. refl)

  -- all rows of a column
  pub dual_rows_lem : (b r : ℕ → ℕ) (j : ℕ) → total (2 ^ p) (λ i. dual_counts p n b r i j) ≡ weight n b
  unfolding dual_counts weight
  dual_rows_lem b r j =
      fold-swap ◌+◌ 0 sums (2 ^ p) n (λ i h. place_counts p (product (gf p) n b r) (b h) h i j)
      ∙ fold_cong ◌+◌ 0 n (λ h _. place-rows (product (gf p) n b r) (b h) h j)

-- ---- all dual words

-- the rows from 1 on are filled; each dual word has the weight w
pub record RowsFilled (p n : ℕ) (b : ℕ → ℕ → ℕ) (duals w : ℕ) (r : ℕ → ℕ) (m : List ℕ) : Type 0 where
  pub weights : (l : ℕ) → l < duals → weight n (b l) ≡ w
  pub rows : (i j : ℕ) → 1 ≤ i → i < 2 ^ p → j < n → place m (i * n + j) ≡ total duals (λ l. dual_counts p n (b l) r i j)

module _ {p n : ℕ} {b : ℕ → ℕ → ℕ} {duals w : ℕ} {r : ℕ → ℕ} {m₀ : List ℕ} (s : Sizes p n) (h : RowsFilled p n b duals w r m₀) where
  -- what the matrix has in row i and column j
  entry : ℕ → ℕ → ℕ
  entry i j = total duals (λ l. dual_counts p n (b l) r i j)

  -- a column's sum
  column : (j : ℕ) → total (2 ^ p) (λ i. entry i j) ≡ duals * w
  unfolding entry
  column j =
      fold-swap ◌+◌ 0 sums (2 ^ p) duals (λ i l. dual_counts p n (b l) r i j)
      ∙ total_equal duals w _ (λ l d. dual_rows_lem s (b l) r j ∙ h.weights l d)

  -- row 0 and what the others have
  parts : (j : ℕ) → j < n → entry 0 j + total (2 ^ p - 1) (λ i. place m₀ ((1 + i) * n + j)) ≡ duals * w
  unfolding entry
  parts j d =
      ap (λ (x : ℕ). entry 0 j + x) (fold_cong ◌+◌ 0 (2 ^ p - 1) (λ i l.
      h.rows (1 + i) j (omega arith) (omega arith) d ∙ ap (λ (i : ℕ). entry i j) (omega arith)))
      ∙ sym (fold_head ◌+◌ 0 sums (2 ^ p - 1) (λ i. entry i j))
      ∙ ap (λ (k : ℕ). total k (λ i. entry i j)) (omega (arith, pow_pos p))
      ∙ column j

  -- the rows from 1 on leave something of duals * w
  pub column_room : {all : ℕ} → all ≡ duals * w → (j : ℕ) → j < n → total (2 ^ p - 1) (λ i. place m₀ ((1 + i) * n + j)) ≤ all
  column_room e j d = omega (arith, parts j d)

  -- with row 0 as what they leave, the matrix is counted
  pub filled : {all : ℕ} {m : List ℕ} → all ≡ duals * w
      → m ≡ table (2 ^ p * n) (λ k. cond (ltb k n) (all - total (2 ^ p - 1) (λ i. place m₀ ((1 + i) * n + k))) (place m₀ k))
      → m ≡ counted p n b duals r
  unfolding counted entry
  filled {all} e d = d ∙ table_same (2 ^ p * n) (λ k l. go k l (dec_lt k n))
    where
      left : ℕ → ℕ
      left k = all - total (2 ^ p - 1) (λ i. place m₀ ((1 + i) * n + k))

      go : (k : ℕ) → k < 2 ^ p * n → Dec (k < n) → cond (ltb k n) (left k) (place m₀ k) ≡ entry (k / n) (k % n)
      go k l (yes a) =
          ap (λ (t : Bool). cond t (left k) (place m₀ k)) (lt-ltb k n a) ∙ omega (arith, parts k a)
          ∙ sym (ap₂ entry (div-eq_of_lt a) (mod-eq_of_lt a))
      go k l (no a) =
          ap (λ (t : Bool). cond t (left k) (place m₀ k)) (le-ltb k n (omega arith)) ∙ ap (place m₀) (sym (div-add-mod' k n))
          ∙ h.rows (k / n) (k % n) (low (ℕ_discrete (k / n) 0)) ((div-lt_iff_lt-mul s.n_low).1 l) (mod-lt k s.n_low)
        where
          low : Dec (k / n ≡ 0) → 1 ≤ k / n
          low (yes z) = absurd (a (omega (arith, div-add-mod' k n, ap (λ (x : ℕ). x * n) z, zero-mul n, mod-lt k s.n_low)))
          low (no z) = omega arith

-- ---- the dual words whose terms a room has

-- each has the weight that stands there
pub terms_weight : {stride p n duals : ℕ} {b : ℕ → ℕ → ℕ} {terms : List ℕ} → TermsOf stride p n duals b terms → (l : ℕ) → l < duals
    → weight n (b l) ≡ weight_in terms
terms_weight h l d = places_weight (h.row_of l d).turns_of.places

-- a column's sum is at most 8160
pub all_le : {stride p n duals : ℕ} {terms : List ℕ} → Terms stride p n duals terms → duals * weight_in terms ≤ 8160
all_le {n = n} {terms = terms} h = let small : weight_in terms ≤ 255 = omega (arith, h.few, h.sizes.n_high) in mul-le-mul h.few_duals small

-- A column of the matrix adds up to L × the weight, and so no entry passes it. In an accepted book this is at most 8160, and at most 2016 in a short one.
-- Assumes nothing.
use mathlib.Core.Path.{◌≡◌, refl, sym, ap, ◌∙◌}
use mathlib.Core.Bool.{Bool, true, false, cond, ◌&&◌}
use mathlib.Core.List.{List}
use Prim.Native.Nat.{ℕ, ◌+◌, ◌*◌, ◌%◌, ◌≤◌, ◌<◌}
use native.Mathlib.Nat.{le_trans, le_of_eq, mul-le-mul}
use lib.Dec.{eqb}
use Rattle.spec_range.specs.Fold.{total}
use Rattle.spec_range.proofs.Tests.{same_eqb}
use Rattle.spec_range.proofs.Fold.{fold_cong, fold-swap, fold-pick, sums}
use Rattle.spec_range.proofs.Count.{part_le, total_equal, count_le}
use Rattle.spec_field.specs.Field.{FieldOps, FieldLaws}
use Rattle.spec_word.specs.Word.{nonzero, weight}
use Rattle.spec_book.specs.Book.{Book, Usable}
use Rattle.spec_book.specs.Layout.{is_long, field_of, book_of}
use Rattle.spec_book.specs.Conditions.{refusal}
use Rattle.spec_book.proofs.Known.{book_accepted, book_laws, n_pos, n_high, n_high_short, duals_high}
use Rattle.spec_decoding.specs.Matrix.{check_value, dual_entry, entry_of, entry, matrix, cell}
use Rattle.spec_decoding.proofs.Matrix.{check_below, cell-matrix}

module _ (F : FieldOps) (laws : FieldLaws F) (B : Book) where
  open F use {q}
  open B use {n, dual_count, dual}

  -- a column adds up to what all the places of a dual word add
  pub dual_amounts : (amount : ℕ → ℕ → ℕ) (b r : ℕ → ℕ) (j : ℕ)
      → total q (λ i. dual_entry F B amount b r i j) ≡ total n (λ h. cond (nonzero (b h)) (amount h j) 0)
  unfolding dual_entry
  dual_amounts amount b r j =
      fold-swap ◌+◌ 0 sums q n (λ i h. cond (nonzero (b h) && eqb (value h) i) (amount h j) 0)
      ∙ fold_cong ◌+◌ 0 n (λ h _.
      fold_cong ◌+◌ 0 q (λ i _. masked (nonzero (b h)) (value h) i (amount h j))
      ∙ fold-pick ◌+◌ 0 sums q (value h) (check_below F laws B b r h j) (λ i. cond (nonzero (b h)) (amount h j) 0))
    where
      value : ℕ → ℕ
      value h = check_value F B b r h j

      masked : (b : Bool) (x i a : ℕ) → cond (b && eqb x i) a 0 ≡ cond (eqb i x) (cond b a 0) 0
      masked true x i a = ap (λ (b : Bool). cond b a 0) (same_eqb {a = x} {b = i} {c = i} {d = x} (λ e. sym e) (λ e. sym e))
      masked false x i a = go (eqb i x)
        where
          go : (b : Bool) → ◌≡◌ {A = ℕ} 0 (cond b 0 0)
          go true = refl
          go false = refl

  -- and over all dual words to what all the choices add
  pub column_amounts : (amount : ℕ → ℕ → ℕ → ℕ) (r : ℕ → ℕ) (j : ℕ)
      → total q (λ i. entry_of F B amount r i j) ≡ total dual_count (λ l. total n (λ h. cond (nonzero (dual l h)) (amount l h j) 0))
  unfolding entry_of
  column_amounts amount r j =
      fold-swap ◌+◌ 0 sums q dual_count (λ i l. dual_entry F B (amount l) (dual l) r i j)
      ∙ fold_cong ◌+◌ 0 dual_count (λ l _. dual_amounts (amount l) (dual l) r j)

  pub column-total : Usable F B → (r : ℕ → ℕ) (j : ℕ) → total q (λ i. entry F B r i j) ≡ dual_count * weight n (dual 0)
  unfolding weight
  column-total ok r j =
      column_amounts (λ l h j. 1) r j ∙ total_equal dual_count (weight n (dual 0)) (λ l. weight n (dual l)) ok.one_weight

  pub entry_le : Usable F B → (r : ℕ → ℕ) {i : ℕ} (j : ℕ) → i < q → entry F B r i j ≤ dual_count * weight n (dual 0)
  entry_le ok r {i} j h = le_trans (part_le q (λ i. entry F B r i j) h) (le_of_eq (column-total ok r j))

-- ---- the columns of an accepted book

module _ (bytes : List ℕ) (e : refusal bytes ≡ 0) where
  abbrev F : FieldOps
  F = field_of bytes

  abbrev B : Book
  B = book_of bytes

  -- no word weighs more than its length, and there are at most 32 dual words
  column-le : {most : ℕ} → B.n ≤ most → (r : ℕ → ℕ) (j : ℕ) → total F.q (λ i. entry F B r i j) ≤ 32 * most
  unfolding weight
  column-le fits r j =
      le_trans (le_of_eq (column-total F (book_laws bytes e) B (book_accepted bytes e) r j))
      (mul-le-mul (duals_high bytes e) (le_trans (count_le B.n (λ j. nonzero (B.dual 0 j))) fits))

  -- SCOPE 4.14: a column adds up to at most 8160
  pub column_high : (r : ℕ → ℕ) (j : ℕ) → total F.q (λ i. entry F B r i j) ≤ 8160
  column_high r j = column-le (n_high bytes e) r j

  -- SCOPE 4.14: and to at most 2016 in a short book
  pub column_high_short : is_long bytes ≡ false → (r : ℕ → ℕ) (j : ℕ) → total F.q (λ i. entry F B r i j) ≤ 2016
  column_high_short f r j = column-le (n_high_short bytes e f) r j

  -- its entries are those of the definition
  column-cells : (r : ℕ → ℕ) (j : ℕ) → total F.q (λ i. cell F B (matrix F B r) i j) ≡ total F.q (λ i. entry F B r i (j % B.n))
  column-cells r j = fold_cong ◌+◌ 0 F.q (λ i l. cell-matrix F B (λ l h j. 1) r j l (n_pos bytes e))

  -- SCOPE 4.14: a column of the matrix as it is written adds up to at most 8160
  pub cells_high : (r : ℕ → ℕ) (j : ℕ) → total F.q (λ i. cell F B (matrix F B r) i j) ≤ 8160
  cells_high r j = le_trans (le_of_eq (column-cells r j)) (column_high r (j % B.n))

  -- SCOPE 4.14: and to at most 2016 in a short book
  pub cells_high_short : is_long bytes ≡ false → (r : ℕ → ℕ) (j : ℕ) → total F.q (λ i. cell F B (matrix F B r) i j) ≤ 2016
  cells_high_short f r j = le_trans (le_of_eq (column-cells r j)) (column_high_short f r (j % B.n))

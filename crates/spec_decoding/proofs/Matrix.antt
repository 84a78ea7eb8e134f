-- The check value as a product of words, and the matrix of a moved word: entry (i, j) of the one is entry (c × i, j + t) of the other.
-- Assumes nothing.
use mathlib.Core.Path.{◌≡◌, sym, ap, ap₂, ◌∙◌}
use mathlib.Core.Bool.{Bool, not, cond, ◌&&◌}
use Prim.Native.Nat.{ℕ, ◌+◌, ◌-◌, ◌*◌, ◌/◌, ◌%◌, ◌<◌}
use native.Mathlib.Nat.{mod-lt, mod-eq_of_lt, mod-mod}
use native.Mathlib.Decide.{ℕ_discrete}
use native.Mathlib.Omega.{arith}
use lib.ListN.{length}
use lib.Arith.{digits_lt, digits_div, digits_mod}
use borrow.Author.Tests.{ne_eqb}
use Rattle.spec_range.proofs.Tests.{same_eqb}
use Rattle.spec_range.proofs.Fold.{fold_cong}
use Rattle.spec_range.proofs.Table.{table_at, table-length}
use Rattle.spec_field.specs.Field.{FieldOps, FieldLaws}
use Rattle.spec_field.proofs.Laws.{zero_mul, mul_left_comm, mul-cancel}
use Rattle.spec_word.specs.Word.{nonzero, product}
use Rattle.spec_word.proofs.Place.{Word, period_mod}
use Rattle.spec_word.proofs.Product.{Shifted, product_period, product_shifted}
use Rattle.spec_word.proofs.CyclicCode.{CodeWord, check-zero, n_pos}
use Rattle.spec_book.specs.Book.{Book, Usable}
use Rattle.spec_decoding.specs.Matrix.{check_sum, check_value, dual_entry, entry_of, matrix_of, cell}

-- ---- the check value

module _ (F : FieldOps) (laws : FieldLaws F) (B : Book) where
  open F use {q, add as ◌⊕◌, mul as ◌⊗◌, inv}
  open laws use {mul_below}
  open B use {n}

  infixl 60 ◌⊕◌
  infixl 70 ◌⊗◌
  -- the places where b is zero add nothing: the sum over all places is the same
  pub check_product : (b r : ℕ → ℕ) (h j : ℕ) → check_sum F B b r h j ≡ product F n b r (j + h)
  unfolding check_sum product
  check_product b r h j = fold_cong ◌⊕◌ 0 n (λ u _. term (b u) (r (j + h + (n - u))) (ℕ_discrete (b u) 0))
    where
      term : (a x : ℕ) → Dec (a ≡ 0) → cond (nonzero a) (a ⊗ x) 0 ≡ a ⊗ x
      term a x (yes e) =
          ap (λ (y : ℕ). cond (nonzero y) (y ⊗ x) 0) e ∙ sym (zero_mul F laws x) ∙ ap (◌⊗ x) (sym e)
      term a x (no h) = ap (λ (b : Bool). cond (not b) (a ⊗ x) 0) (ne_eqb a 0 h)

  pub check_below : (b r : ℕ → ℕ) (h j : ℕ) → check_value F B b r h j < q
  unfolding check_value
  check_below b r h j = mul_below (inv (b h)) (check_sum F B b r h j)

-- ---- the matrix as a list

module _ (F : FieldOps) (B : Book) (amount : ℕ → ℕ → ℕ → ℕ) where
  open F use {q}
  open B use {n}

  pub matrix-length : (r : ℕ → ℕ) → length (matrix_of F B amount r) ≡ q * n
  unfolding matrix_of
  matrix-length r = table-length (q * n) _

  pub cell-matrix : (r : ℕ → ℕ) {i : ℕ} (j : ℕ) → i < q → 0 < n → cell F B (matrix_of F B amount r) i j ≡ entry_of F B amount r i (j % n)
  unfolding cell matrix_of
  cell-matrix r {i} j hi pos =
      table_at (q * n) (λ k. entry_of F B amount r (k / n) (k % n)) (digits_lt hi (mod-lt j pos))
      ∙ ap₂ (λ (x y : ℕ). entry_of F B amount r x y) (digits_div i (mod-lt j pos)) (digits_mod i (mod-lt j pos))

-- ---- a moved word

-- what each choice adds moves along: at the place j turned by t a choice adds by amount' what it adds at j by amount
abbrev pub MovedAmounts : Book → ℕ → (ℕ → ℕ → ℕ → ℕ) → (ℕ → ℕ → ℕ → ℕ) → Type 0
MovedAmounts B t amount amount' =
    (l : ℕ) → l < B.dual_count → (h : ℕ) → h < B.n → (j : ℕ) → j < B.n → amount' l h ((j + t) % B.n) ≡ amount l h j

module _ (F : FieldOps) (laws : FieldLaws F) (B : Book) (ok : Usable F B) where
  open F use {q, add as ◌⊕◌, mul as ◌⊗◌, inv}
  open laws use {add_zero, mul_below}
  open B use {n, degree, generator, dual_count, dual}
  open ok use {generates, dual_symbols, dual_period, dual_product}

  infixl 60 ◌⊕◌
  infixl 70 ◌⊗◌
  dual_word_lem : (l : ℕ) → l < dual_count → Word F n (dual l)
  dual_word_lem l h = record { symbol = dual_symbols l h; period = dual_period l h }

  pos : 0 < n
  pos = n_pos F laws n degree generator generates

  check-period : (b : ℕ → ℕ) {r : ℕ → ℕ} → Word F n r → (h j : ℕ) → check_value F B b r h (j + n) ≡ check_value F B b r h j
  unfolding check_value
  check-period b {r} r-word h j =
      ap (inv (b h) ⊗◌)
      (check_product F laws B b r h (j + n) ∙ ap (product F n b r) (omega arith) ∙ product_period F laws n b r r-word.period (j + h)
      ∙ sym (check_product F laws B b r h j))

  module _ (t : ℕ) {c : ℕ} (c_pos : 0 < c) (hc : c < q) {v : ℕ → ℕ} (v-word : Word F n v) (v-code : CodeWord F laws n degree generator generates v)
      {r r' : ℕ → ℕ} (r'-word : Word F n r') (shifted : Shifted F t c v r r') where
    check-shifted : (l : ℕ) → l < dual_count → (h j : ℕ) → check_value F B (dual l) r' h (j + t) ≡ c ⊗ check_value F B (dual l) r h j
    unfolding check_value
    check-shifted l hl h j =
        ap (inv (dual l h) ⊗◌)
        (check_product F laws B (dual l) r' h (j + t) ∙ ap (product F n (dual l) r') (omega arith)
        ∙ product_shifted F laws n t c (dual l) r v r' shifted (j + h)
        ∙ ap (c ⊗ product F n (dual l) r (j + h) ⊕◌)
        (check-zero F laws n degree generator generates (dual_word_lem l hl) (dual_product l hl) v-word v-code (j + h + t))
        ∙ add_zero (c ⊗ product F n (dual l) r (j + h)))
        ∙ mul_left_comm F laws (inv (dual l h)) c (product F n (dual l) r (j + h))
        ∙ ap (λ (x : ℕ). c ⊗ (inv (dual l h) ⊗ x)) (sym (check_product F laws B (dual l) r h j))

    check-at : (l : ℕ) → l < dual_count → (h j : ℕ) → check_value F B (dual l) r' h ((j + t) % n) ≡ c ⊗ check_value F B (dual l) r h j
    check-at l hl h j =
        period_mod n (check_value F B (dual l) r' h) (check-period (dual l) r'-word h) (j + t) ∙ check-shifted l hl h j

    -- what one dual word adds, whatever each of its places adds, as long as that moves along
    dual-shifted : (l : ℕ) → l < dual_count → (amount amount' : ℕ → ℕ → ℕ) {i : ℕ} → i < q
        → (j : ℕ) → ((h : ℕ) → h < n → amount' h ((j + t) % n) ≡ amount h j)
        → dual_entry F B amount' (dual l) r' (c ⊗ i) ((j + t) % n) ≡ dual_entry F B amount (dual l) r i j
    unfolding dual_entry
    dual-shifted l hl amount amount' {i} hi j amounts =
        fold_cong ◌+◌ 0 n (λ h k.
        ap₂ (λ (b : Bool) (x : ℕ). cond (nonzero (dual l h) && b) x 0)
        (same_eqb
        (λ e. mul-cancel F laws c_pos hc (check_below F laws B (dual l) r h j) hi (sym (check-at l hl h j) ∙ e))
        (λ e. check-at l hl h j ∙ ap (c ⊗◌) e))
        (amounts h k))

    module _ (amount amount' : ℕ → ℕ → ℕ → ℕ) (amounts : MovedAmounts B t amount amount') where
      entry-shifted : {i : ℕ} → i < q → {j : ℕ} → j < n → entry_of F B amount' r' (c ⊗ i) ((j + t) % n) ≡ entry_of F B amount r i j
      unfolding entry_of
      entry-shifted hi {j} hj =
          fold_cong ◌+◌ 0 dual_count (λ l hl. dual-shifted l hl (amount l) (amount' l) hi j (λ h hh. amounts l hl h hh j hj))

      -- the same of the matrices as they are written
      pub matrix-shifted : (i : ℕ) → i < q → (j : ℕ) → j < n
          → cell F B (matrix_of F B amount' r') (c ⊗ i) ((j + t) % n) ≡ cell F B (matrix_of F B amount r) i j
      matrix-shifted i hi j l =
          cell-matrix F B amount' r' ((j + t) % n) (mul_below c i) pos
          ∙ ap (entry_of F B amount' r' (c ⊗ i)) (mod-mod (j + t) n) ∙ entry-shifted hi l
          ∙ ap (entry_of F B amount r i) (sym (mod-eq_of_lt l)) ∙ sym (cell-matrix F B amount r j hi pos)

-- The update rule of a moved matrix: peaks, ranks, the update set and the corrections move with it.
-- Assumes nothing.
use mathlib.Core.Path.{◌≡◌, refl, sym, ap, ap₂, ◌∙◌}
use mathlib.Core.Bool.{Bool, true, false, not, cond, ◌&&◌}
use Prim.Native.Nat.{ℕ, suc, pred, ◌+◌, max, ◌<◌}
use native.Mathlib.Omega.{arith}
use lib.Dec.{eqb, leb}
use Rattle.spec_range.specs.Fold.{fold, indicator}
use Rattle.spec_field.specs.Field.{FieldOps, FieldLaws}
use Rattle.spec_word.specs.Word.{sum}
use Rattle.spec_book.specs.Book.{Book}
use Rattle.spec_decoding.specs.Decode.{peak, has_peak, zero_count, peak_count, holders, in_update_set, correction, empty_update_set}
use Rattle.spec_range.proofs.Fold.{CommutativeMonoid, fold_cong, fold-permute, fold-permute-rows, sums, maxima, tests}
use Rattle.spec_field.proofs.Laws.{zero_below}
use Rattle.spec_word.proofs.Sums.{field_sums, sum_below, additive_sum}
use Rattle.spec_decoding.proofs.Motion.{Motion, MovedMatrix}

module _ (F : FieldOps) (laws : FieldLaws F) (B : Book) where
  open F use {q, add as ◌⊕◌}
  open B use {n, most_places}

  infixl 60 ◌⊕◌
  -- a nonzero symbol or 0
  below : (b : Bool) (k : ℕ) → k < pred q → cond b (suc k) 0 < q
  below true k l = omega arith
  below false k l = zero_below F laws

  pub correction-below : (m : ℕ → ℕ → ℕ) (j : ℕ) → correction F B m j < q
  unfolding correction
  correction-below m j =
      masked (in_update_set F B m j) (sum_below F laws (pred q) (λ k. cond (has_peak F B m j k) (suc k) 0) (λ k l. below (has_peak F B m j k) k l))
    where
      masked : (b : Bool) {x : ℕ} → x < q → cond b x 0 < q
      masked true h = h
      masked false h = zero_below F laws

  module _ (M : Motion F n) where
    open M use {place, unplace, place_lt, unplace_lt, unplace_place, place_unplace, symbol, unsymbol, symbol_lt, unsymbol_lt, unsymbol_symbol, symbol_unsymbol, symbol_zero, symbol_add}

    -- the rows 1 to q - 1, and the columns, may be gone through as they are moved
    rows : {A : Type 0} (op : A → A → A) (e : A) → CommutativeMonoid op e
        → (f : ℕ → A) → fold op e (pred q) (λ k. f (suc k)) ≡ fold op e (pred q) (λ k. f (symbol (suc k)))
    rows op e laws' f =
        sym (fold-permute-rows op e laws' q symbol unsymbol (zero_below F laws) symbol_lt unsymbol_lt unsymbol_symbol symbol_unsymbol symbol_zero f)

    columns : {A : Type 0} (op : A → A → A) (e : A) → CommutativeMonoid op e
        → (f : ℕ → A) → fold op e n f ≡ fold op e n (λ j. f (place j))
    columns op e laws' f = sym (fold-permute op e laws' n place unplace place_lt unplace_lt unplace_place place_unplace f)

    module _ (m m' : ℕ → ℕ → ℕ) (moved : MovedMatrix M m m') where
      zero_row : (j : ℕ) → j < n → m' 0 (place j) ≡ m 0 j
      zero_row j l = ap (λ (x : ℕ). m' x (place j)) (sym symbol_zero) ∙ moved 0 (zero_below F laws) j l

      peak-moved : (j : ℕ) → j < n → peak F B m' (place j) ≡ peak F B m j
      unfolding peak
      peak-moved j l =
          rows max 0 maxima (λ i. m' i (place j)) ∙ fold_cong max 0 (pred q) (λ k h. moved (suc k) (omega arith) j l)

      has_peak-moved : (j : ℕ) → j < n → (k : ℕ) → k < pred q
          → eqb (m' (symbol (suc k)) (place j)) (peak F B m' (place j)) ≡ has_peak F B m j k
      has_peak-moved j l k h = ap₂ eqb (moved (suc k) (omega arith) j l) (peak-moved j l)

      holders-moved : (j : ℕ) → j < n → holders F B m' (place j) ≡ holders F B m j
      unfolding holders
      holders-moved j l =
          rows ◌+◌ 0 sums (λ i. indicator (eqb (m' i (place j)) (peak F B m' (place j))))
          ∙ fold_cong ◌+◌ 0 (pred q) (λ k h. ap indicator (has_peak-moved j l k h))

      zero_count-moved : (j : ℕ) → j < n → zero_count F B m' (place j) ≡ zero_count F B m j
      unfolding zero_count
      zero_count-moved j l =
          columns ◌+◌ 0 sums (λ k. indicator (leb (m' 0 k) (m' 0 (place j))))
          ∙ fold_cong ◌+◌ 0 n (λ k h. ap₂ (λ (x y : ℕ). indicator (leb x y)) (zero_row k h) (zero_row j l))

      peak_count-moved : (j : ℕ) → j < n → peak_count F B m' (place j) ≡ peak_count F B m j
      unfolding peak_count
      peak_count-moved j l =
          columns ◌+◌ 0 sums (λ k. indicator (leb (peak F B m' (place j)) (peak F B m' k)))
          ∙ fold_cong ◌+◌ 0 n (λ k h. ap₂ (λ (x y : ℕ). indicator (leb x y)) (peak-moved j l) (peak-moved k h))

      in_update_set-moved : (j : ℕ) → j < n → in_update_set F B m' (place j) ≡ in_update_set F B m j
      unfolding in_update_set
      in_update_set-moved j l =
          ap₂ ◌&&◌
          (ap₂ ◌&&◌
          (ap₂ (λ (x y : ℕ). leb x most_places && leb y most_places) (zero_count-moved j l) (peak_count-moved j l))
          (ap (leb 1) (peak-moved j l)))
          (ap (λ (x : ℕ). eqb x 1) (holders-moved j l))

      pub correction-moved : (j : ℕ) → j < n → correction F B m' (place j) ≡ symbol (correction F B m j)
      unfolding correction
      correction-moved j l =
          ap₂ (λ (b : Bool) (x : ℕ). cond b x 0) (in_update_set-moved j l)
          (rows ◌⊕◌ 0 (field_sums F laws) (λ i. cond (eqb (m' i (place j)) (peak F B m' (place j))) i 0)
          ∙ fold_cong ◌⊕◌ 0 (pred q) (λ k h. ap (λ (b : Bool). cond b (symbol (suc k)) 0) (has_peak-moved j l k h) ∙ inside (has_peak F B m j k) (suc k))
          ∙ sym (additive_sum F laws symbol symbol_zero symbol_add (pred q) (λ k. cond (has_peak F B m j k) (suc k) 0)))
          ∙ inside (in_update_set F B m j) (sum F (pred q) (λ k. cond (has_peak F B m j k) (suc k) 0))
        where
          inside : (b : Bool) (x : ℕ) → cond b (symbol x) 0 ≡ symbol (cond b x 0)
          inside true x = refl
          inside false x = sym symbol_zero

      pub empty-moved : empty_update_set F B m' ≡ empty_update_set F B m
      unfolding empty_update_set
      empty-moved =
          columns ◌&&◌ true tests (λ j. not (in_update_set F B m' j)) ∙ fold_cong ◌&&◌ true n (λ j l. ap not (in_update_set-moved j l))

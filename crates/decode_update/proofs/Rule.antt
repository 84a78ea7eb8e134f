-- The correction of a column by its peak's symbol and the two counts.
-- Assumes nothing.
use mathlib.Core.Path.{◌≡◌, sym, ap, ap₂, ◌∙◌, subst}
use mathlib.Core.Bool.{Bool, true, false, cond, ◌&&◌}
use mathlib.Core.List.{List}
use Prim.Native.Nat.{ℕ, suc, pred, ◌+◌, ◌*◌, ◌^◌, ◌<◌}
use native.Mathlib.Nat.{zero-lt-suc, suc-lt_of_lt-pred, mod-eq_of_lt}
use native.Mathlib.Omega.{arith}
use lib.Dec.{T, eqb, leb, leb→le, le→leb, eqb→eq}
use Rattle.spec_range.specs.Fold.{indicator, largest}
use Rattle.spec_range.specs.Table.{padded}
use Rattle.spec_range.proofs.Tests.{eq→eqb, and_left, and_right, and_both}
use Rattle.spec_range.proofs.Fold.{fold_cong}
use Rattle.spec_range.proofs.Loop.{Held, padded_same}
use Rattle.spec_field.specs.Field.{FieldOps, FieldLaws}
use Rattle.spec_field.specs.Symbols.{gf}
use Rattle.word_array.specs.Stored.{place}
use Rattle.word_array.proofs.Filled.{held_end}
use Rattle.spec_book.specs.Book.{Book}
use Rattle.spec_decoding.specs.Matrix.{cell}
use Rattle.spec_decoding.specs.Decode.{peak, holders, zero_count, peak_count, in_update_set, correction}
use Rattle.spec_decoding.proofs.Peak.{correction_inside, correction_outside}
use Rattle.decode_update.specs.Column.{rows_with, Sole, none, shared, alone, column, Peaked}
use Rattle.decode_update.specs.Rule.{at_most, at_least, admitted}

chosen : (b : Bool) {e x : ℕ} → (T b → e ≡ x) → ((T b → ⊥) → x ≡ 0) → cond b e 0 ≡ x
chosen true f g = f tt
chosen false f g = sym (g (λ t. t))

module _ (F : FieldOps) (laws : FieldLaws F) (B : Book) (m : ℕ → ℕ → ℕ) (j : ℕ) where
  open F use {q}
  open B use {most_places}

  counts-pass : Bool
  counts-pass = leb (zero_count F B m j) most_places && leb (peak_count F B m j) most_places

  inside : {e : ℕ} → Sole (pred q) (λ k. m (suc k) j) (peak F B m j) e → T counts-pass → e ≡ correction F B m j
  unfolding counts-pass in_update_set holders rows_with
  inside (none z) b = sym (correction_outside F laws B m j (λ t. omega (arith, leb→le 1 (peak F B m j) (search (and_left, and_right)))))
  inside (shared h) b = sym (correction_outside F laws B m j (λ t. omega (arith, eqb→eq (holders F B m j) 1 (search (and_left, and_right)))))
  inside (alone {k} l t p h) b =
      let p' : T (leb 1 (peak F B m j)) = le→leb 1 (peak F B m j) p in
      let h' : T (eqb (holders F B m j) 1) = eq→eqb h in
      (correction_inside F laws B m j (search and_both)).only (suc k) (zero-lt-suc k) (suc-lt_of_lt-pred l) t

  -- the symbol that alone has the peak, where the counts admit it
  correction-sole : {e : ℕ} → Sole (pred q) (λ k. m (suc k) j) (peak F B m j) e
      → admitted most_places (zero_count F B m j) (peak_count F B m j) e ≡ correction F B m j
  unfolding admitted counts-pass in_update_set
  correction-sole s = chosen counts-pass (inside s) (λ b. correction_outside F laws B m j (λ t. b (search and_left)))

-- ---- the matrix as a list, with the counts and the symbols of its columns

module _ (p : ℕ) (laws : FieldLaws (gf p)) (B : Book) (m counts symbols : List ℕ) where
  open B use {n, most_places}

  entries : ℕ → ℕ → ℕ
  entries = cell (gf p) B m

  module _ (h : Peaked n m (2 ^ p) counts symbols) where
    first-row : (j : ℕ) → j < n → entries 0 j ≡ place m j
    unfolding entries cell
    first-row j l = ap (place m) (omega (arith, mod-eq_of_lt l))

    same-column : (j : ℕ) → j < n → (λ k. entries (suc k) j) ≡ column n m j
    unfolding entries cell column
    same-column j l = ap {B = ℕ → ℕ} (λ x k. place m (suc k * n + x)) (mod-eq_of_lt l)

    peak-at : (j : ℕ) → j < n → place counts j ≡ peak (gf p) B entries j
    unfolding peak
    peak-at j l = h.count_at j l ∙ ap (largest (pred (2 ^ p))) (sym (same-column j l))

    at-book : (j : ℕ) → j < n
        → admitted most_places (at_most n m (place m j)) (at_least n counts (place counts j)) (place symbols j) ≡ correction (gf p) B entries j
    unfolding at_most at_least zero_count peak_count
    at-book j l =
        ap₂ (λ (x y : ℕ). admitted most_places x y (place symbols j))
        (fold_cong ◌+◌ 0 n (λ k b. ap₂ (λ (x y : ℕ). indicator (leb x y)) (sym (first-row k b)) (sym (first-row j l))))
        (fold_cong ◌+◌ 0 n (λ k b. ap₂ (λ (x y : ℕ). indicator (leb x y)) (peak-at j l) (peak-at k b)))
        ∙ correction-sole (gf p) laws B entries j
        (subst (λ (f : ℕ → ℕ). Sole (pred (2 ^ p)) f (peak (gf p) B entries j) (place symbols j)) (sym (same-column j l))
        (subst (λ (y : ℕ). Sole (pred (2 ^ p)) (column n m j) y (place symbols j)) (peak-at j l) (h.symbol_at j l)))

  corrections-at : {n' places : ℕ} → n ≡ n' → most_places ≡ places → Peaked n' m (2 ^ p) counts symbols → (j : ℕ) → j < n'
      → admitted places (at_most n' m (place m j)) (at_least n' counts (place counts j)) (place symbols j) ≡ correction (gf p) B (cell (gf p) B m) j
  unfolding entries
  corrections-at e d h j l = rw (← e, ← d) (at-book (rw (← e) at h) j (rw (← e) at l))

  -- an array that holds what the counts admit holds the corrections
  pub corrections_held : {n' places j : ℕ} {w : List ℕ} → n ≡ n' → most_places ≡ places → Peaked n' m (2 ^ p) counts symbols → j ≡ n'
      → Held 255 j (λ j. admitted places (at_most n' m (place m j)) (at_least n' counts (place counts j)) (place symbols j)) w
      → w ≡ padded 255 n' (correction (gf p) B (cell (gf p) B m))
  corrections_held e d h k f = held_end k f ∙ padded_same 255 _ (corrections-at e d h)

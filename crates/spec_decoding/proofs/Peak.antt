-- "just one nonzero symbol has it. That symbol is subtracted at j": at a place of the update set the correction is the one nonzero symbol that has the
-- peak, and elsewhere it is 0.
-- Assumes nothing.
use mathlib.Core.Path.{◌≡◌, sym, ap, ◌∙◌, subst}
use mathlib.Core.Bool.{cond}
use Prim.Native.Nat.{ℕ, zero, suc, pred, ◌<◌}
use native.Mathlib.Nat.{suc-lt_of_lt-pred, not-suc-le-zero}
use native.Mathlib.Omega.{arith}
use lib.Dec.{T, eqb→eq}
use Rattle.spec_range.proofs.Tests.{eq→eqb, and_left, and_right, cond_true, cond_false}
use Rattle.spec_range.proofs.Fold.{fold-pick}
use Rattle.spec_range.proofs.Count.{count_found, count_one, fold_only}
use Rattle.spec_field.specs.Field.{FieldOps, FieldLaws}
use Rattle.spec_word.specs.Word.{sum}
use Rattle.spec_word.proofs.Sums.{field_sums}
use Rattle.spec_book.specs.Book.{Book}
use Rattle.spec_decoding.specs.Decode.{peak, has_peak, holders, in_update_set, correction}

module _ (F : FieldOps) (laws : FieldLaws F) (B : Book) where
  open F use {q, add as ◌⊕◌}

  -- the sum of the symbols that have the peak is the symbol that alone has it
  holder : (m : ℕ → ℕ → ℕ) (j : ℕ) → holders F B m j ≡ 1 → (k : ℕ) → k < pred q → T (has_peak F B m j k)
      → sum F (pred q) (λ k. cond (has_peak F B m j k) (suc k) 0) ≡ suc k
  unfolding holders
  holder m j one k l t =
      fold_only ◌⊕◌ 0 suc (pred q) (has_peak F B m j) one l t ∙ fold-pick ◌⊕◌ 0 (field_sums F laws) (pred q) k l suc

  -- e is the one nonzero symbol that has the peak of column j
  pub record OneHolder (m : ℕ → ℕ → ℕ) (j e : ℕ) : Type 0 where
    pub nonzero : 0 < e
    pub symbol : e < q
    pub has-peak : m e j ≡ peak F B m j
    pub only : (i : ℕ) → 0 < i → i < q → m i j ≡ peak F B m j → i ≡ e

  pub correction_inside : (m : ℕ → ℕ → ℕ) (j : ℕ) → T (in_update_set F B m j) → OneHolder m j (correction F B m j)
  unfolding in_update_set correction holders
  correction_inside m j t =
      let one : holders F B m j ≡ 1 = eqb→eq (holders F B m j) 1 (search (and_left, and_right)) in
      let found = count_found (pred q) (has_peak F B m j) (subst (λ (x : ℕ). 0 < x) (sym one) (omega arith)) in
      let k = found.0 in
      let e : correction F B m j ≡ suc k = cond_true (in_update_set F B m j) _ 0 t ∙ holder m j one k found.1 found.2 in
      subst (OneHolder m j) (sym e)
      (record {
        nonzero = omega arith;
        symbol = suc-lt_of_lt-pred found.1;
        has-peak = eqb→eq (m (suc k) j) (peak F B m j) found.2;
        only = λ i pos l h. only m j one k found.1 found.2 i pos l h;
      })
    where
      only : (m : ℕ → ℕ → ℕ) (j : ℕ) → holders F B m j ≡ 1 → (k : ℕ) → k < pred q → T (has_peak F B m j k)
          → (i : ℕ) → 0 < i → i < q → m i j ≡ peak F B m j → i ≡ suc k
      only m j one k l t zero pos h e = absurd (not-suc-le-zero pos)
      only m j one k l t (suc i) pos h e =
          ap suc (eqb→eq i k (subst T (unfold holders in count_one (pred q) (has_peak F B m j) one l t i (omega arith)) (eq→eqb e)))

  pub correction_outside : (m : ℕ → ℕ → ℕ) (j : ℕ) → (T (in_update_set F B m j) → ⊥) → correction F B m j ≡ 0
  unfolding correction
  correction_outside m j h = cond_false (in_update_set F B m j) _ 0 h

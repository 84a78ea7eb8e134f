-- Sums of many symbols.
-- Assumes nothing.
use mathlib.Core.Path.{◌≡◌}
use mathlib.Core.Bool.{true}
use Prim.Native.Nat.{ℕ, ◌<◌}
use lib.Dec.{T}
use Rattle.spec_range.proofs.Fold.{CommutativeMonoid, fold_kept, fold-map}
use Rattle.spec_field.specs.Field.{FieldOps, FieldLaws}
use Rattle.spec_field.proofs.Laws.{zero_below}
use Rattle.spec_word.specs.Word.{sum}

-- the values of a function are symbols
abbrev pub Symbols : FieldOps → (ℕ → ℕ) → Type 0
Symbols F w = (j : ℕ) → w j < F.q

module _ (F : FieldOps) (laws : FieldLaws F) where
  open F use {q, add as ◌⊕◌, mul as ◌⊗◌}
  open laws use {add_below, add_comm, add_assoc, add_zero, mul_add, mul_zero}

  infixl 60 ◌⊕◌
  infixl 70 ◌⊗◌
  pub field_sums : CommutativeMonoid ◌⊕◌ 0
  field_sums = record { assoc = add_assoc; comm = add_comm; unit = add_zero }

  pub sum_below : (n : ℕ) (f : ℕ → ℕ) → ((i : ℕ) → i < n → f i < q) → sum F n f < q
  sum_below = fold_kept ◌⊕◌ 0 (λ (a : ℕ). a < q) (zero_below F laws) add_below

  -- a sum goes through whatever goes through a sum of two
  pub additive_sum : (φ : ℕ → ℕ) → φ 0 ≡ 0 → ((a b : ℕ) → φ (a ⊕ b) ≡ φ a ⊕ φ b)
      → (n : ℕ) (f : ℕ → ℕ) → φ (sum F n f) ≡ sum F n (λ i. φ (f i))
  additive_sum φ z h n f = fold-map ◌⊕◌ 0 (λ (a : ℕ). T true) tt (λ a b _ _. tt) ◌⊕◌ 0 φ z (λ a b _ _. h a b) n f (λ i l. tt)

  pub mul-sum : (c n : ℕ) (f : ℕ → ℕ) → c ⊗ sum F n f ≡ sum F n (λ i. c ⊗ f i)
  mul-sum c = additive_sum (c ⊗◌) (mul_zero c) (mul_add c)

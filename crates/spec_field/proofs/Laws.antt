-- What follows from the laws of a field of characteristic 2.
-- Assumes nothing.
use mathlib.Core.Path.{◌≡◌, refl, sym, ap, ap₂, ◌∙◌}
use mathlib.Core.Logic.{◌⊎◌, inl, inr}
use Prim.Native.Nat.{ℕ, zero, suc, ◌<◌}
use native.Mathlib.Nat.{zero-lt-suc, le_of_suc-le}
use Rattle.spec_field.specs.Field.{FieldOps, FieldLaws}

module _ (F : FieldOps) (laws : FieldLaws F) where
  open F use {q, add as ◌⊕◌, mul as ◌⊗◌, inv}
  open laws use {one_below, add_comm, add_assoc, add_zero, add_self, mul_below, mul_comm, mul_assoc, mul_add, mul_zero, mul_one, inv_below, mul_inv}

  infixl 60 ◌⊕◌
  infixl 70 ◌⊗◌
  pub zero_below : 0 < q
  zero_below = le_of_suc-le one_below

  -- ---- sums

  pub zero_add : (a : ℕ) → 0 ⊕ a ≡ a
  zero_add a = add_comm 0 a ∙ add_zero a

  -- what is added twice is gone
  pub add_twice : (a b : ℕ) → a ⊕ b ⊕ b ≡ a
  add_twice a b = add_assoc a b b ∙ ap (a ⊕◌) (add_self b) ∙ add_zero a

  pub add_cancel : {a b c : ℕ} → a ⊕ c ≡ b ⊕ c → a ≡ b
  add_cancel {a} {b} {c} e = sym (add_twice a c) ∙ ap (◌⊕ c) e ∙ add_twice b c

  pub eq_of_add_zero : {a b : ℕ} → a ⊕ b ≡ 0 → a ≡ b
  eq_of_add_zero {a} {b} e = add_cancel (e ∙ sym (add_self b))

  -- ---- products

  pub zero_mul : (a : ℕ) → 0 ⊗ a ≡ 0
  zero_mul a = mul_comm 0 a ∙ mul_zero a

  pub one_mul : (a : ℕ) → a < q → 1 ⊗ a ≡ a
  one_mul a h = mul_comm 1 a ∙ mul_one a h

  pub add-mul : (a b c : ℕ) → (a ⊕ b) ⊗ c ≡ a ⊗ c ⊕ b ⊗ c
  add-mul a b c = mul_comm (a ⊕ b) c ∙ mul_add c a b ∙ ap₂ ◌⊕◌ (mul_comm c a) (mul_comm c b)

  pub mul_left_comm : (a b c : ℕ) → a ⊗ (b ⊗ c) ≡ b ⊗ (a ⊗ c)
  mul_left_comm a b c = sym (mul_assoc a b c) ∙ ap (◌⊗ c) (mul_comm a b) ∙ mul_assoc b a c

  -- ---- a nonzero factor may be taken away again

  module _ {c : ℕ} (pos : 0 < c) (hc : c < q) where
    pub mul-inv-mul : (a : ℕ) → a < q → c ⊗ (inv c ⊗ a) ≡ a
    mul-inv-mul a ha = sym (mul_assoc c (inv c) a) ∙ ap (◌⊗ a) (mul_inv c pos hc) ∙ one_mul a ha

    pub inv-mul-mul : (a : ℕ) → a < q → inv c ⊗ (c ⊗ a) ≡ a
    inv-mul-mul a ha = mul_left_comm (inv c) c a ∙ mul-inv-mul a ha

    pub mul-cancel : {a b : ℕ} → a < q → b < q → c ⊗ a ≡ c ⊗ b → a ≡ b
    mul-cancel {a} {b} ha hb e = sym (inv-mul-mul a ha) ∙ ap (inv c ⊗◌) e ∙ inv-mul-mul b hb

  -- each nonzero symbol has just one inverse
  pub inv_unique : (a b : ℕ) → 0 < a → a < q → b < q → a ⊗ b ≡ 1 → b ≡ inv a
  inv_unique a b pos ha hb e = mul-cancel pos ha hb (inv_below a) (e ∙ sym (mul_inv a pos ha))

  -- there are no zero divisors
  pub zero_of_product : (a b : ℕ) → a < q → b < q → a ⊗ b ≡ 0 → (a ≡ 0) ⊎ (b ≡ 0)
  zero_of_product zero b ha hb e = inl refl
  zero_of_product (suc a) b ha hb e = inr (mul-cancel (zero-lt-suc a) ha hb zero_below (e ∙ sym (mul_zero (suc a))))

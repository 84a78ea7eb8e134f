-- A map of fields keeps 0 and inverses and is one to one.
-- Assumes nothing.
use mathlib.Core.Path.{◌≡◌, sym, ap, ◌∙◌}
use Prim.Native.Nat.{ℕ, ◌<◌}
use native.Mathlib.Nat.{pos_of_ne-zero}
use native.Mathlib.Decide.{ℕ_discrete}
use native.Mathlib.Omega.{arith}
use Rattle.spec_field.specs.Field.{FieldOps, FieldLaws}
use Rattle.spec_field.specs.Map.{FieldMap}
use Rattle.spec_field.proofs.Laws as L

module _ {F F' : FieldOps} (laws : FieldLaws F) (laws' : FieldLaws F') (M : FieldMap F F') where
  open F use {q, add as ◌⊕◌, mul as ◌⊗◌, inv}
  open laws use {add_below, add_self, inv_below, mul_inv}
  open M use {image, image_below, image_one, image_add, image_mul}

  infixl 60 ◌⊕◌
  infixl 70 ◌⊗◌
  pub image_zero : image 0 ≡ 0
  image_zero =
      ap image (sym (add_self 0)) ∙ image_add 0 0 (L.zero_below F laws) (L.zero_below F laws) ∙ laws'.add_self (image 0)

  -- 1 is not mapped to 0, and every nonzero symbol divides it
  pub image_null : (a : ℕ) → a < q → image a ≡ 0 → a ≡ 0
  image_null a ha z = go (ℕ_discrete a 0)
    where
      go : Dec (a ≡ 0) → a ≡ 0
      go (yes e) = e
      go (no h) = absurd (one_not_zero (sym image_one ∙ ap image (sym (mul_inv a (pos_of_ne-zero h) ha))
          ∙ image_mul a (inv a) ha (inv_below a) ∙ ap (λ (x : ℕ). F'.mul x (image (inv a))) z ∙ L.zero_mul F' laws' (image (inv a))))
        where
          one_not_zero : ◌≡◌ {A = ℕ} 1 0 → ⊥
          one_not_zero e = omega arith

  pub image_apart : (a b : ℕ) → a < q → b < q → image a ≡ image b → a ≡ b
  image_apart a b ha hb e =
      L.eq_of_add_zero F laws (image_null (a ⊕ b) (add_below a b ha hb)
      (image_add a b ha hb ∙ ap (λ (x : ℕ). F'.add x (image b)) e ∙ laws'.add_self (image b)))

  pub image_inv : (a : ℕ) → 0 < a → a < q → image (inv a) ≡ F'.inv (image a)
  image_inv a pos ha =
      L.inv_unique F' laws' (image a) (image (inv a)) (pos_of_ne-zero (λ z. not-zero (image_null a ha z))) (image_below a ha)
      (image_below (inv a) (inv_below a)) (sym (image_mul a (inv a) ha (inv_below a)) ∙ ap image (mul_inv a pos ha) ∙ image_one)
    where
      not-zero : a ≡ 0 → ⊥
      not-zero e = omega (arith, pos, e)

-- The laws of the powers of x in GF(2^p), p from 1 to 6: to multiply is to add exponents, and to divide is to take them away, modulo 2 ^ p - 1.
-- Assumes nothing.
use mathlib.Core.Path.{◌≡◌, refl, sym, ap, ◌∙◌, subst}
use mathlib.Core.Bool.{Bool, ◌||◌, or-false}
use Prim.Native.Nat.{ℕ, zero, suc, ◌+◌, ◌-◌, ◌^◌, ◌<◌, ◌≤◌}
use native.Mathlib.Nat.{mod-eq_of_lt, suc-add, zero-add, add_comm}
use native.Mathlib.Numerals.{add-one}
use native.Mathlib.Decide.{dec_lt}
use native.Mathlib.Omega.{arith}
use borrow.Author.Tests.{ne_eqb}
use lib.Dec.{eqb}
use lib.Pow.{pow_mono}
use Rattle.spec_range.proofs.Tests.{same_eqb}
use Rattle.spec_field.specs.Field.{FieldLaws}
use Rattle.spec_field.specs.Symbols.{times_x, shift_add, product, inverse, gf}
use Rattle.spec_field.proofs.ShiftAdd.{shift_add-times_x}
use Rattle.spec_field.proofs.Laws.{one_mul, mul-cancel, mul-inv-mul, inv-mul-mul}
use Rattle.spec_field.proofs.Gf.{times_x-below, gf_laws}
use Rattle.field_powers.specs.Powers.{power}
use Rattle.field_powers.proofs.Reached as reached

-- the next power, in the code's form e + 1
pub power_next : (p e : ℕ) {a b : ℕ} → b ≡ times_x p a → a ≡ power p e → b ≡ power p (e + 1)
unfolding power
power_next p e h q = h ∙ ap (times_x p) q ∙ ap (power p) (sym (add-one e))

module _ (p : ℕ) (low : 1 ≤ p) (high : p ≤ 6) where
  -- ---- each power is a nonzero symbol

  -- a power is a symbol
  pub power_below : (e : ℕ) → power p e < 2 ^ p
  unfolding power
  power_below zero = pow_mono low
  power_below (suc e) = times_x-below p (power p e) high (power_below e)

  -- and it is not zero
  pub power_pos : (e : ℕ) → 0 < power p e
  unfolding power
  power_pos zero = omega arith
  power_pos (suc e) = reached.times_x_pos p (power p e) high (power_pos e) (power_below e)

  -- ---- a product's exponent is the sum

  -- x times a product is x times its first factor
  times_x-product : (a b : ℕ) → a < 2 ^ p → times_x p (product p a b) ≡ product p (times_x p a) b
  unfolding product
  times_x-product a b ha =
      ap (λ (x : ℕ). times_x p (shift_add p p x b)) (mod-eq_of_lt ha) ∙ sym (shift_add-times_x p p a b)
      ∙ ap (λ (x : ℕ). shift_add p p x b) (sym (mod-eq_of_lt (times_x-below p a high ha)))

  -- x ^ (a + b)
  pub power-add : (a b : ℕ) → power p (a + b) ≡ product p (power p a) (power p b)
  unfolding power
  power-add zero b = ap (power p) (zero-add b) ∙ sym (one_mul (gf p) (gf_laws p low high) (power p b) (power_below b))
  power-add (suc a) b =
      ap (power p) (suc-add a b) ∙ ap (times_x p) (power-add a b) ∙ times_x-product (power p a) (power p b) (power_below a)

  -- ---- exponents count modulo 2 ^ p - 1

  -- after 2 ^ p - 1 steps the powers are at 1 again
  pub power_whole : power p (2 ^ p - 1) ≡ 1
  power_whole = reached.power_whole p high

  -- so that many steps more change nothing
  pub power_round : (e : ℕ) → power p (e + (2 ^ p - 1)) ≡ power p e
  power_round e = power-add e (2 ^ p - 1) ∙ ap (product p (power p e)) power_whole ∙ (gf_laws p low high).mul_one (power p e) (power_below e)

  -- equal powers, d apart
  apart : (a d : ℕ) → d < 2 ^ p - 1 → power p a ≡ power p (a + d) → d ≡ 0
  apart a zero l e = refl
  apart a (suc d) l e =
      let laws = gf_laws p low high in
      let one : power p (suc d) ≡ 1 =
      mul-cancel (gf p) laws (power_pos a) (power_below a) (power_below (suc d)) laws.one_below
      (sym (power-add a (suc d)) ∙ sym e ∙ sym (laws.mul_one (power p a) (power_below a))) in
      absurd (reached.power_not_one p (suc d) high (omega arith) l one)

  -- exponents below 2 ^ p - 1 with the same power are the same
  pub power_one_to_one : (a b : ℕ) → a < 2 ^ p - 1 → b < 2 ^ p - 1 → power p a ≡ power p b → a ≡ b
  power_one_to_one a b ha hb e = go (dec_lt b a)
    where
      go : Dec (b < a) → a ≡ b
      go (yes l) =
          let sum : a ≡ b + (a - b) = omega arith in
          let none : a - b ≡ 0 = apart b (a - b) (omega arith) (sym e ∙ ap (power p) sum) in
          omega arith
      go (no l) =
          let sum : b ≡ a + (b - a) = omega arith in
          let none : b - a ≡ 0 = apart a (b - a) (omega arith) (e ∙ ap (power p) sum) in
          omega arith

  -- ---- division, as equal tests, since these are counted

  -- w / c is x ^ e exactly where w is x ^ (e + lc), lc being the logarithm of c; w may be zero
  pub divided : (c w lc e : ℕ) → w < 2 ^ p → power p lc ≡ c → eqb (product p (inverse p c) w) (power p e) ≡ eqb w (power p (e + lc))
  divided c w lc e hw logc = same_eqb to from
    where
      laws : FieldLaws (gf p)
      laws = gf_laws p low high

      pos : 0 < c
      pos = subst (λ (x : ℕ). 0 < x) logc (power_pos lc)

      below : c < 2 ^ p
      below = subst (λ (x : ℕ). x < 2 ^ p) logc (power_below lc)

      -- c times x ^ e
      times : product p c (power p e) ≡ power p (e + lc)
      times = ap (λ (x : ℕ). product p x (power p e)) (sym logc) ∙ sym (power-add lc e) ∙ ap (power p) (add_comm lc e)

      to : product p (inverse p c) w ≡ power p e → w ≡ power p (e + lc)
      to h = sym (mul-inv-mul (gf p) laws pos below w hw) ∙ ap (product p c) h ∙ times

      from : w ≡ power p (e + lc) → product p (inverse p c) w ≡ power p e
      from h = ap (product p (inverse p c)) (h ∙ sym times) ∙ inv-mul-mul (gf p) laws pos below (power p e) (power_below e)

  -- w / c is x ^ e exactly where the logarithm of w, plus 2 ^ p - 1 less that of c, is e or 2 ^ p - 1 more
  pub scattered : (c w lc lw e : ℕ) → lc < 2 ^ p - 1 → lw < 2 ^ p - 1 → e < 2 ^ p - 1 → power p lc ≡ c → power p lw ≡ w
      → eqb (product p (inverse p c) w) (power p e) ≡ (eqb (lw + (2 ^ p - 1 - lc)) e || eqb (lw + (2 ^ p - 1 - lc)) (e + (2 ^ p - 1)))
  scattered c w lc lw e hc hw he logc logw = divided c w lc e below logc ∙ go (dec_lt (e + lc) (2 ^ p - 1))
    where
      below : w < 2 ^ p
      below = subst (λ (x : ℕ). x < 2 ^ p) logw (power_below lw)

      -- w is x ^ k exactly where lw is k
      same : (k m n : ℕ) → k < 2 ^ p - 1 → (lw ≡ k → m ≡ n) → (m ≡ n → lw ≡ k) → eqb w (power p k) ≡ eqb m n
      same k m n hk f g =
          same_eqb (λ h. f (power_one_to_one lw k hw hk (logw ∙ h))) (λ h. sym logw ∙ ap (power p) (g h))

      go : Dec (e + lc < 2 ^ p - 1)
          → eqb w (power p (e + lc)) ≡ (eqb (lw + (2 ^ p - 1 - lc)) e || eqb (lw + (2 ^ p - 1 - lc)) (e + (2 ^ p - 1)))
      go (yes l) =
          same (e + lc) (lw + (2 ^ p - 1 - lc)) (e + (2 ^ p - 1)) l (λ h. omega arith) (λ h. omega arith)
          ∙ sym (ap (λ (b : Bool). b || eqb (lw + (2 ^ p - 1 - lc)) (e + (2 ^ p - 1))) (ne_eqb (lw + (2 ^ p - 1 - lc)) e (λ h. omega arith)))
      go (no l) =
          let back : e + lc ≡ e + lc - (2 ^ p - 1) + (2 ^ p - 1) = omega arith in
          ap (eqb w) (ap (power p) back ∙ power_round (e + lc - (2 ^ p - 1)))
          ∙ same (e + lc - (2 ^ p - 1)) (lw + (2 ^ p - 1 - lc)) e (omega arith) (λ h. omega arith) (λ h. omega arith)
          ∙ sym
          (ap (λ (b : Bool). eqb (lw + (2 ^ p - 1 - lc)) e || b) (ne_eqb (lw + (2 ^ p - 1 - lc)) (e + (2 ^ p - 1)) (λ h. omega arith)) ∙ or-false _)

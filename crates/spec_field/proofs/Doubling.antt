-- The multiples of a symbol, each from an earlier one: 2c times w is x times c times w, and 2c + 1 times w is w more. Assumes nothing.
use mathlib.Core.Path.{◌≡◌, sym, ap, ◌∙◌}
use Prim.Native.Nat.{ℕ, zero, suc, ◌+◌, ◌*◌, ◌%◌, ◌^◌, ◌<◌, ◌≤◌}
use native.Mathlib.Nat.{zero-mul, mul_comm, mod-eq_of_lt, div-eq_of_lt, pow-suc, not-suc-le-zero, le_refl}
use native.Mathlib.Omega.{arith}
use lib.Bits.{bit_xor, xor_zero_r, xor_shifted}
use Rattle.spec_field.specs.Symbols.{polynomial, times_x, shift_add, product, gf}
use Rattle.spec_field.proofs.ShiftAdd.{shift_add-times_x}
use Rattle.spec_field.proofs.Laws.{one_mul, add-mul}
use Rattle.spec_field.proofs.Gf.{gf_laws}

-- x times a symbol is its double, where that is a symbol
times_x_small : (p c : ℕ) → c * 2 < 2 ^ p → times_x p c ≡ c * 2
unfolding times_x
times_x_small p c h =
    ap (λ (x : ℕ). bit_xor (c * 2) (x % 2 * polynomial p)) (div-eq_of_lt h) ∙ ap (bit_xor (c * 2)) (zero-mul (polynomial p)) ∙ xor_zero_r (c * 2)

pub product_double : (p c w : ℕ) → 2 * c < 2 ^ p → product p (2 * c) w ≡ times_x p (product p c w)
unfolding product
product_double p c w h =
    ap (λ (x : ℕ). shift_add p p x w) (mod-eq_of_lt h ∙ mul_comm 2 c ∙ sym (times_x_small p c (omega arith)) ∙ ap (times_x p) (sym (mod-eq_of_lt (omega arith))))
    ∙ shift_add-times_x p p (c % 2 ^ p) w

pub product_next : (p c w : ℕ) → 1 ≤ p → p ≤ 6 → w < 2 ^ p → product p (2 * c + 1) w ≡ bit_xor (product p (2 * c) w) w
product_next p c w low high h =
    let laws = gf_laws p low high in
    ap (λ (x : ℕ). product p x w) (ap (λ (x : ℕ). x + 1) (mul_comm 2 c) ∙ sym (xor_shifted c 1 1 (le_refl 2)) ∙ ap (λ (x : ℕ). bit_xor x 1) (mul_comm c 2))
    ∙ add-mul (gf p) laws (2 * c) 1 w ∙ ap (bit_xor (product p (2 * c) w)) (one_mul (gf p) laws w h)

-- the number of symbols is even
pub next_below : (p c : ℕ) → 1 ≤ p → 2 * c < 2 ^ p → 2 * c + 1 < 2 ^ p
next_below zero c low h = absurd (not-suc-le-zero low)
next_below (suc p) c low h = omega (arith, pow-suc 2 p)

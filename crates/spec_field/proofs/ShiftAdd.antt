-- Shift-and-add multiplication, for any p: `shiftAdd p k a b` is linear in a and in b, and multiplications commute, since each is
-- a polynomial in `timesX p`. No bound on p or on a symbol is needed here. Assumes nothing.
use mathlib.Core.Path.{◌≡◌, refl, sym, ap, ap₂, ◌∙◌, subst}
use Prim.Native.Nat.{ℕ, zero, suc, ◌+◌, ◌*◌, ◌/◌, ◌%◌, ◌^◌, ◌<◌, ◌≤◌}
use native.Mathlib.Nat.{zero-mul, one-mul, mod-eq_of_lt, pow-suc, le_of_suc-le-suc, not-suc-le-zero, zero-lt-suc, div-lt_iff_lt-mul}
use lib.Arith.{digits_mod, digits_div, mod-mul, lt-one}
use lib.Pow.{pow_pos}
use lib.Bits.{bit_xor, xor_self, xor_shr, xor_mod}
use Rattle.spec_field.specs.Symbols.{polynomial, times_x, shift_add, product}
use Rattle.spec_field.proofs.Xor.{digit, odd<2, xor_assoc, xor_exchange, xor_double, scale_digits, scale_xor}

-- a map that keeps sums takes 0 to 0
linear_zero : (f : ℕ → ℕ) → ((a b : ℕ) → f (bit_xor a b) ≡ bit_xor (f a) (f b)) → f 0 ≡ 0
linear_zero f h = h 0 0 ∙ xor_self (f 0)

-- and it keeps multiples by a digit
linear_digit : (f : ℕ → ℕ) → ((a b : ℕ) → f (bit_xor a b) ≡ bit_xor (f a) (f b)) → (x a : ℕ) → x < 2 → f (x * a) ≡ x * f a
linear_digit f h x a hx =
    digit (λ x. f (x * a) ≡ x * f a) (ap f (zero-mul a) ∙ linear_zero f h ∙ sym (zero-mul (f a)))
    (ap f (one-mul a) ∙ sym (one-mul (f a))) x hx

module _ (p : ℕ) where
  top_digit : (a b : ℕ) → bit_xor a b / 2 ^ p % 2 ≡ bit_xor (a / 2 ^ p % 2) (b / 2 ^ p % 2)
  top_digit a b = ap (λ (x : ℕ). x % 2) (xor_shr a b p) ∙ xor_mod (a / 2 ^ p) (b / 2 ^ p) 1

  times_x_xor : (a b : ℕ) → times_x p (bit_xor a b) ≡ bit_xor (times_x p a) (times_x p b)
  unfolding times_x
  times_x_xor a b =
      ap (λ (x : ℕ). bit_xor x (x / 2 ^ p % 2 * polynomial p)) (xor_double a b)
      ∙ ap (λ (x : ℕ). bit_xor (bit_xor (a * 2) (b * 2)) (x * polynomial p)) (top_digit (a * 2) (b * 2))
      ∙ ap (bit_xor (bit_xor (a * 2) (b * 2))) (scale_digits _ _ (polynomial p) (odd<2 (a * 2 / 2 ^ p)) (odd<2 (b * 2 / 2 ^ p)))
      ∙ xor_exchange (a * 2) (b * 2) _ _

  pub shift_add_xor_left : (k a b c : ℕ) → shift_add p k (bit_xor a b) c ≡ bit_xor (shift_add p k a c) (shift_add p k b c)
  unfolding shift_add
  shift_add_xor_left zero a b c = refl
  shift_add_xor_left (suc k) a b c =
      ap₂ bit_xor (scale_xor (c % 2) a b (odd<2 c))
      (ap (λ (x : ℕ). shift_add p k x (c / 2)) (times_x_xor a b) ∙ shift_add_xor_left k (times_x p a) (times_x p b) (c / 2))
      ∙ xor_exchange (c % 2 * a) (c % 2 * b) _ _

  pub shift_add_xor_right : (k a b c : ℕ) → shift_add p k a (bit_xor b c) ≡ bit_xor (shift_add p k a b) (shift_add p k a c)
  unfolding shift_add
  shift_add_xor_right zero a b c = refl
  shift_add_xor_right (suc k) a b c =
      ap₂ bit_xor (ap (λ (x : ℕ). x * a) (xor_mod b c 1) ∙ scale_digits (b % 2) (c % 2) a (odd<2 b) (odd<2 c))
      (ap (shift_add p k (times_x p a)) (xor_shr b c 1) ∙ shift_add_xor_right k (times_x p a) (b / 2) (c / 2))
      ∙ xor_exchange (b % 2 * a) (c % 2 * a) _ _

  pub shift_add_zero_left : (k b : ℕ) → shift_add p k 0 b ≡ 0
  shift_add_zero_left k b = linear_zero (λ a. shift_add p k a b) (λ a c. shift_add_xor_left k a c b)

  pub shift_add_zero_right : (k a : ℕ) → shift_add p k a 0 ≡ 0
  shift_add_zero_right k a = linear_zero (shift_add p k a) (shift_add_xor_right k a)

  -- multiplying by x and multiplying by b may change places
  pub shift_add-times_x : (k a b : ℕ) → shift_add p k (times_x p a) b ≡ times_x p (shift_add p k a b)
  unfolding shift_add
  shift_add-times_x zero a b = sym (linear_zero (times_x p) times_x_xor)
  shift_add-times_x (suc k) a b =
      ap₂ bit_xor (sym (linear_digit (times_x p) times_x_xor (b % 2) a (odd<2 b))) (shift_add-times_x k (times_x p a) (b / 2))
      ∙ sym (times_x_xor (b % 2 * a) (shift_add p k (times_x p a) (b / 2)))

  -- multiplying by b and multiplying by c may change places
  pub shift_add_swap : (j k a b c : ℕ) → shift_add p j (shift_add p k a b) c ≡ shift_add p k (shift_add p j a c) b
  unfolding shift_add
  shift_add_swap zero k a b c = sym (shift_add_zero_left k b)
  shift_add_swap (suc j) k a b c =
      ap₂ bit_xor (sym (linear_digit (λ x. shift_add p k x b) (λ x y. shift_add_xor_left k x y b) (c % 2) a (odd<2 c)))
      (ap (λ (x : ℕ). shift_add p j x (c / 2)) (sym (shift_add-times_x k a b)) ∙ shift_add_swap j k (times_x p a) b (c / 2))
      ∙ sym (shift_add_xor_left k (c % 2 * a) (shift_add p j (times_x p a) (c / 2)) b)

  -- one step of the multiplication, with what was summed before
  pub shift_add_step : (k r a b : ℕ) → bit_xor (bit_xor r (b % 2 * a)) (shift_add p k (times_x p a) (b / 2)) ≡ bit_xor r (shift_add p (suc k) a b)
  unfolding shift_add
  shift_add_step k r a b = xor_assoc r (b % 2 * a) (shift_add p k (times_x p a) (b / 2))

  -- only the k low digits of b count
  pub shift_add_low : (k a b : ℕ) → shift_add p k a (b % 2 ^ k) ≡ shift_add p k a b
  unfolding shift_add
  shift_add_low zero a b = refl
  shift_add_low (suc k) a b =
      ap₂ (λ (x y : ℕ). bit_xor (x * a) (shift_add p k (times_x p a) y)) (ap (λ (x : ℕ). x % 2) low ∙ digits_mod (b / 2 % 2 ^ k) (odd<2 b))
      (ap (λ (x : ℕ). x / 2) low ∙ digits_div (b / 2 % 2 ^ k) (odd<2 b))
      ∙ ap (bit_xor (b % 2 * a)) (shift_add_low k (times_x p a) (b / 2))
    where
      low : b % 2 ^ suc k ≡ (b / 2 % 2 ^ k) * 2 + b % 2
      low = ap (λ (x : ℕ). b % x) (pow-suc 2 k) ∙ mod-mul b (pow_pos k) (zero-lt-suc 1)

  -- steps past the last digit of b add nothing
  pub shift_add_more : (n k a b : ℕ) → k ≤ n → b < 2 ^ k → shift_add p n a b ≡ shift_add p k a b
  unfolding shift_add
  shift_add_more n zero a b h hb = ap (shift_add p n a) (lt-one hb) ∙ shift_add_zero_right n a
  shift_add_more zero (suc k) a b h hb = absurd (not-suc-le-zero h)
  shift_add_more (suc n) (suc k) a b h hb =
      ap (bit_xor (b % 2 * a))
      (shift_add_more n k (times_x p a) (b / 2) (le_of_suc-le-suc h) ((div-lt_iff_lt-mul (zero-lt-suc 1)).1 (subst (λ (x : ℕ). b < x) (pow-suc 2 k) hb)))

  -- so any number of steps from p up makes the product
  pub product_in_steps : (n a b : ℕ) → p ≤ n → a < 2 ^ p → b < 2 ^ p → shift_add p n a b ≡ product p a b
  unfolding product
  product_in_steps n a b h ha hb = shift_add_more n p a b h hb ∙ ap (λ (x : ℕ). shift_add p p x b) (sym (mod-eq_of_lt ha))

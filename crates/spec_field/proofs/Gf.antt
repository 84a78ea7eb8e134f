-- GF(2^p), p from 1 to 6, is a field: each law by one proof with p as a parameter. Commutativity and associativity come from
-- `shiftAdd-swap`, since a is 1 times a; what rests on the polynomial chosen is computed over all p at once. Assumes nothing.
use mathlib.Core.Path.{◌≡◌, sym, ap, ◌∙◌, subst}
use mathlib.Core.Bool.{Bool}
use Prim.Native.Nat.{ℕ, zero, suc, ◌-◌, ◌*◌, ◌/◌, ◌%◌, ◌^◌, ◌<◌, ◌≤◌, zero-le}
use native.Mathlib.Nat.{mod-lt, mod-eq_of_lt, zero-mul, one-mul, zero-add}
use native.Mathlib.Omega.{arith}
use lib.Dec.{T, eqb, ltb, eqb→eq, ltb→lt}
use lib.Pow.{pow_pos, pow_mono}
use lib.Bits.{xor_comm, xor_self, xor_zero_r, xor_lt}
use Rattle.spec_range.specs.Fold.{fold}
use Rattle.spec_field.specs.Field.{FieldLaws}
use Rattle.spec_field.specs.Symbols.{polynomial, sum, times_x, shift_add, product, inverse, gf}
use Rattle.spec_field.proofs.Xor.{xor_assoc, digit, odd<2}
use Rattle.spec_field.proofs.ShiftAdd.{shift_add_xor_right, shift_add_zero_right, shift_add_swap, shift_add_low}
use Rattle.spec_field.proofs.Computed.{at_symbol}
use Rattle.spec_field.proofs.First.{first_below, first_passes}
use Rattle.spec_field.proofs.Power.{squares, power_inverts}
use Rattle.spec_field.proofs.Laws.{inv_unique}

-- ---- what is computed: the polynomial of p has degree p, and 1 is neutral

shifts_below : ℕ → ℕ → Bool
shifts_below p a = ltb (times_x p a) (2 ^ p)

pub times_x-below : (p a : ℕ) → p ≤ 6 → a < 2 ^ p → times_x p a < 2 ^ p
unfolding shifts_below times_x polynomial fold
times_x-below p a hp ha = ltb→lt _ (2 ^ p) (at_symbol shifts_below tt p a hp ha)

one_neutral : ℕ → ℕ → Bool
one_neutral p a = eqb (shift_add p p 1 a) a

one_shift_add : (p a : ℕ) → p ≤ 6 → a < 2 ^ p → shift_add p p 1 a ≡ a
unfolding one_neutral shift_add times_x polynomial fold
one_shift_add p a hp ha = eqb→eq _ a (at_symbol one_neutral tt p a hp ha)

-- ---- the product

module _ (p : ℕ) (low : 1 ≤ p) (high : p ≤ 6) where
  shift_add-below : (k a b : ℕ) → a < 2 ^ p → shift_add p k a b < 2 ^ p
  unfolding shift_add
  shift_add-below zero a b ha = pow_pos p
  shift_add-below (suc k) a b ha =
      xor_lt p _ _
      (digit (λ x. x * a < 2 ^ p) (subst (λ (x : ℕ). x < 2 ^ p) (sym (zero-mul a)) (pow_pos p)) (subst (λ (x : ℕ). x < 2 ^ p) (sym (one-mul a)) ha) (b % 2) (odd<2 b))
      (shift_add-below k (times_x p a) (b / 2) (times_x-below p a high ha))

  pub product-below : (a b : ℕ) → product p a b < 2 ^ p
  unfolding product
  product-below a b = shift_add-below p (a % 2 ^ p) b (mod-lt a (pow_pos p))

  shift_add_comm : (a b : ℕ) → a < 2 ^ p → b < 2 ^ p → shift_add p p a b ≡ shift_add p p b a
  shift_add_comm a b ha hb =
      ap (λ (x : ℕ). shift_add p p x b) (sym (one_shift_add p a high ha)) ∙ shift_add_swap p p p 1 a b
      ∙ ap (λ (x : ℕ). shift_add p p x a) (one_shift_add p b high hb)

  pub product_comm : (a b : ℕ) → product p a b ≡ product p b a
  unfolding product
  product_comm a b =
      sym (shift_add_low p p (a % 2 ^ p) b) ∙ shift_add_comm (a % 2 ^ p) (b % 2 ^ p) (mod-lt a (pow_pos p)) (mod-lt b (pow_pos p))
      ∙ shift_add_low p p (b % 2 ^ p) a

  product-twice : (a b c : ℕ) → product p (product p a b) c ≡ shift_add p p (shift_add p p (a % 2 ^ p) b) c
  unfolding product
  product-twice a b c = ap (λ (x : ℕ). shift_add p p x c) (mod-eq_of_lt (product-below a b))

  product-swap : (a b c : ℕ) → product p (product p a b) c ≡ product p (product p a c) b
  product-swap a b c = product-twice a b c ∙ shift_add_swap p p p (a % 2 ^ p) b c ∙ sym (product-twice a c b)

  pub product_assoc : (a b c : ℕ) → product p (product p a b) c ≡ product p a (product p b c)
  product_assoc a b c =
      ap (λ (x : ℕ). product p x c) (product_comm a b) ∙ product-swap b a c ∙ product_comm (product p b c) a

  pub product-sum : (a b c : ℕ) → product p a (sum b c) ≡ sum (product p a b) (product p a c)
  unfolding product
  product-sum a b c = shift_add_xor_right p p (a % 2 ^ p) b c

  pub product_zero : (a : ℕ) → product p a 0 ≡ 0
  unfolding product
  product_zero a = shift_add_zero_right p p (a % 2 ^ p)

  pub squares_below : (k s r : ℕ) → r < 2 ^ p → squares p k s r < 2 ^ p
  unfolding squares
  squares_below zero s r h = h
  squares_below (suc k) s r h = squares_below k (product p s s) (product p r (product p s s)) (product-below r (product p s s))

  pub inverse-below : (a : ℕ) → inverse p a < 2 ^ p
  unfolding inverse
  inverse-below a = first_below (λ b. eqb (product p a b) 1) (2 ^ p) 0 (2 ^ p) (pow_pos p) (omega arith)

  one_below : 1 < 2 ^ p
  one_below = pow_mono low

  product-one : (a : ℕ) → a < 2 ^ p → product p a 1 ≡ a
  unfolding product
  product-one a ha =
      product_comm a 1 ∙ ap (λ (x : ℕ). shift_add p p x a) (mod-eq_of_lt one_below) ∙ one_shift_add p a high ha

  product-inverse : (a : ℕ) → 0 < a → a < 2 ^ p → product p a (inverse p a) ≡ 1
  unfolding inverse
  product-inverse a h ha =
      eqb→eq _ 1
      (first_passes (λ b. eqb (product p a b) 1) (2 ^ p) 0 (squares p (p - 1) a 1) zero-le (subst (λ (x : ℕ). squares p (p - 1) a 1 < x) (sym (zero-add (2 ^ p))) (squares_below (p - 1) a 1 one_below))
      (subst (λ (x : ℕ). T (eqb x 1)) (sym (power_inverts p a high h ha)) tt))

  -- the symbols of GF(2^p) are a field
  pub gf_laws : FieldLaws (gf p)
  gf_laws =
      record {
        one_below = one_below;
        add_below = xor_lt p;
        add_comm = xor_comm;
        add_assoc = xor_assoc;
        add_zero = xor_zero_r;
        add_self = xor_self;
        mul_below = product-below;
        mul_comm = product_comm;
        mul_assoc = product_assoc;
        mul_add = product-sum;
        mul_zero = product_zero;
        mul_one = product-one;
        inv_below = inverse-below;
        mul_inv = product-inverse;
      }

  -- the power 2 ^ p - 2 is the inverse
  pub inverse-power : (a : ℕ) → 0 < a → a < 2 ^ p → squares p (p - 1) a 1 ≡ inverse p a
  inverse-power a h ha = inv_unique (gf p) gf_laws a (squares p (p - 1) a 1) h ha (squares_below (p - 1) a 1 one_below) (power_inverts p a high h ha)

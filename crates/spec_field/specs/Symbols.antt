-- SCOPE 1: Symbols of GF(2^p): sum, product, inverse. p is a parameter throughout.
-- Assumes nothing.
use Rattle.std.specs.Prelude.{ℕ, zero, suc, ◌*◌, ◌/◌, ◌%◌, ◌^◌, Bool, true, false, List, [], ◌∷◌, eqb, get_or}
use Rattle.std.specs.Int.Bits.{bit_xor}
use Rattle.spec_field.specs.Field.{FieldOps}

-- SCOPE 1.4: the polynomials of p 0 to 6 as numbers; that of p 1 may be any of degree 1, and that of p 0 is filler (1.5)
abbrev pub polynomials : List ℕ
polynomials = 1 ∷ 3 ∷ 7 ∷ 11 ∷ 19 ∷ 37 ∷ 91 ∷ []

-- SCOPE 1.4: the polynomial of p
unfoldable pub polynomial : ℕ → ℕ
polynomial p = get_or polynomials p 0

-- SCOPE 1.3: exclusive or of the digits
abbrev pub sum : ℕ → ℕ → ℕ
sum a b = bit_xor a b

-- SCOPE 1.6: a times x: one digit up, less the polynomial where digit p is then set
unfoldable pub times_x : ℕ → ℕ → ℕ
times_x p a = bit_xor (a * 2) (a * 2 / 2 ^ p % 2 * polynomial p)

-- SCOPE 1.6: a times the k low digits of b: the sum of the a · x^i for which digit i of b is set, each reduced
unfoldable pub shift_add : ℕ → ℕ → ℕ → ℕ → ℕ
shift_add p zero a b = 0
shift_add p (suc k) a b = bit_xor (b % 2 * a) (shift_add p k (times_x p a) (b / 2))

-- SCOPE 1.7: product reduced by the polynomial of p; of all numbers, as a counts modulo 2^p and p digits of b are read
unfoldable pub product : ℕ → ℕ → ℕ → ℕ
product p a b = shift_add p p (a % 2 ^ p) b

-- the first of k numbers from i that passes the test, 0 where none does
unfoldable pub first : (ℕ → Bool) → ℕ → ℕ → ℕ
first test zero i = 0
first test (suc k) i = elim (test i) [ true ↦ i | false ↦ first test k (suc i) ]

-- SCOPE 1.8: the symbol that makes the product 1; of 0, which has none, 0 (1.9)
unfoldable pub inverse : ℕ → ℕ → ℕ
inverse p a = first (λ b. eqb (product p a b) 1) (2 ^ p) 0

-- SCOPE 1.1: the field of the symbols below 2^p
abbrev pub gf : ℕ → FieldOps
gf p = record { q = 2 ^ p; add = sum; mul = product p; inv = inverse p }

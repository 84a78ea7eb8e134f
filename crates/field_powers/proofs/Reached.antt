-- What rests on the polynomials chosen, computed over all p at once: the powers of x reach every nonzero symbol, and are 1 again after 2 ^ p - 1 steps and
-- not sooner. Assumes nothing.
use mathlib.Core.Path.{◌≡◌}
use mathlib.Core.Bool.{Bool, not, ◌||◌}
use Prim.Native.Nat.{ℕ, ◌-◌, ◌^◌, ◌<◌, ◌≤◌, min, suc-le-suc}
use native.Mathlib.Omega.{arith}
use lib.Dec.{eqb, leb, eqb→eq, leb→le, T_not}
use lib.Pow.{pow_mono}
use Rattle.spec_range.specs.Fold.{fold}
use Rattle.spec_range.proofs.Table.{all-at}
use Rattle.spec_range.proofs.Tests.{or_not_left, eq→eqb}
use Rattle.spec_field.specs.Symbols.{polynomial, times_x, first}
use Rattle.spec_field.proofs.Computed.{at_symbol}
use Rattle.spec_field.proofs.First.{first_below}
use Rattle.field_powers.specs.Powers.{power}

-- ---- no nonzero symbol is lost

-- at a = 0 nothing is asked
stays : ℕ → ℕ → Bool
stays p a = leb (min a 1) (times_x p a)

-- x times a nonzero symbol
pub times_x_pos : (p a : ℕ) → p ≤ 6 → 0 < a → a < 2 ^ p → 0 < times_x p a
unfolding stays times_x polynomial fold
times_x_pos p a hp h ha = let l : min a 1 ≤ times_x p a = leb→le (min a 1) _ (at_symbol stays tt p a hp ha) in omega arith

-- ---- every nonzero symbol is a power

-- the first e below 2 ^ p - 1 with x ^ e = c
unfoldable pub logarithm : ℕ → ℕ → ℕ
logarithm p c = first (λ e. eqb (power p e) c) (2 ^ p - 1) 0

-- at c = 0 nothing is asked
reached : ℕ → ℕ → Bool
reached p c = eqb c 0 || eqb (power p (logarithm p c)) c

-- the logarithm of a nonzero symbol
pub power_logarithm : (p c : ℕ) → p ≤ 6 → 0 < c → c < 2 ^ p → power p (logarithm p c) ≡ c
unfolding reached logarithm first power times_x polynomial fold
power_logarithm p c hp h hc =
    eqb→eq _ c (or_not_left (eqb c 0) _ (λ t. let z : c ≡ 0 = eqb→eq c 0 t in omega arith) (at_symbol reached tt p c hp hc))

-- it is below 2 ^ p - 1
pub logarithm_below : (p c : ℕ) → 1 ≤ p → logarithm p c < 2 ^ p - 1
unfolding logarithm
logarithm_below p c low =
    let h : 2 ≤ 2 ^ p = pow_mono low in
    first_below (λ e. eqb (power p e) c) (2 ^ p - 1) 0 (2 ^ p - 1) (omega arith) (omega arith)

-- ---- when the powers are 1

-- x ^ (2 ^ p - 1) is 1
whole : ℕ → Bool
whole p = eqb (power p (2 ^ p - 1)) 1

-- the same at each p up to 6
pub power_whole : (p : ℕ) → p ≤ 6 → power p (2 ^ p - 1) ≡ 1
unfolding whole power times_x polynomial fold
power_whole p hp = eqb→eq _ 1 (all-at 7 whole tt p (suc-le-suc hp))

-- between 0 and 2 ^ p - 1 no power is 1
passing : ℕ → ℕ → Bool
passing p e = eqb e 0 || (leb (2 ^ p - 1) e || not (eqb (power p e) 1))

-- the same at each p up to 6
pub power_not_one : (p e : ℕ) → p ≤ 6 → 0 < e → e < 2 ^ p - 1 → power p e ≡ 1 → ⊥
unfolding passing power times_x polynomial fold
power_not_one p e hp h l one =
    T_not (eqb (power p e) 1)
    (or_not_left (leb (2 ^ p - 1) e) _ (λ t. let z : 2 ^ p - 1 ≤ e = leb→le _ e t in omega arith)
    (or_not_left (eqb e 0) _ (λ t. let z : e ≡ 0 = eqb→eq e 0 t in omega arith) (at_symbol passing tt p e hp (omega arith))))
    (eq→eqb one)

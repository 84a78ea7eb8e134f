-- The inverse as a power, a ^ (2 ^ p - 2): the product of a ^ 2, a ^ 4, .. a ^ 2 ^ (p - 1). One computed test, over all p. Assumes nothing.
use mathlib.Core.Path.{◌≡◌, ◌∙◌}
use mathlib.Core.Bool.{Bool}
use Prim.Native.Nat.{ℕ, zero, suc, ◌-◌, ◌^◌, ◌<◌, ◌≤◌, min}
use native.Mathlib.Omega.{arith}
use lib.Dec.{eqb, eqb→eq}
use Rattle.spec_range.specs.Fold.{fold}
use Rattle.spec_field.specs.Symbols.{polynomial, times_x, shift_add, product}
use Rattle.spec_field.proofs.Computed.{at_symbol}

-- r times each of the next k squares after s
unfoldable pub squares : ℕ → ℕ → ℕ → ℕ → ℕ
squares p zero s r = r
squares p (suc k) s r = squares p k (product p s s) (product p r (product p s s))

-- a * a ^ (2 ^ p - 2) is 1, but 0 at a = 0
inverts : ℕ → ℕ → Bool
inverts p a = eqb (product p a (squares p (p - 1) a 1)) (min a 1)

pub power_inverts : (p a : ℕ) → p ≤ 6 → 0 < a → a < 2 ^ p → product p a (squares p (p - 1) a 1) ≡ 1
unfolding inverts squares product shift_add times_x polynomial fold
power_inverts p a hp h ha = eqb→eq _ (min a 1) (at_symbol inverts tt p a hp ha) ∙ omega arith

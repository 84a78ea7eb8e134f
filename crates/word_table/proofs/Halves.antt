-- The loop over half of a table's rows, each of which is doubled.
-- Assumes nothing.
use Prim.Native.Nat.{ℕ, zero, suc, ◌*◌, ◌/◌, ◌^◌, ◌≤◌}
use native.Mathlib.Nat.{pow-suc, not-suc-le-zero}
use native.Mathlib.Omega.{arith}

-- all of them were doubled: all rows stand
pub halves_reached : (p c : ℕ) → 1 ≤ p → 2 ^ p / 2 ≤ c → 2 ^ p ≤ 2 * c
halves_reached zero c low h = absurd (not-suc-le-zero low)
halves_reached (suc p) c low h = omega (arith, pow-suc 2 p)

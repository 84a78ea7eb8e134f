-- A count that a loop takes: how many of the j places passed, of n, meet a test.
-- Assumes nothing.
use mathlib.Core.Path.{◌≡◌, refl, sym, subst}
use mathlib.Core.Bool.{Bool, true, false}
use Prim.Native.Nat.{ℕ, ◌+◌, ◌≤◌, ◌<◌, zero-le}
use native.Mathlib.Omega.{arith}
use mir.Syntax.{w8, w64}
use mir.Val.{bool_byte, Fits}
use Rattle.spec_range.specs.Fold.{indicator, count}
use Rattle.spec_range.proofs.Count.{count_le}
use Rattle.spec_range.proofs.Loop.{fold_none, fold_step}

pub record Counted (n : ℕ) (p : ℕ → Bool) (j t : ℕ) : Type 0 where
  pub within : j ≤ n
  pub counted : t ≡ count j p

pub counted_none : (n : ℕ) (p : ℕ → Bool) → Counted n p 0 0
counted_none n p = record { within = zero-le; counted = sym (fold_none ◌+◌ 0 _) }

byte : (b : Bool) → bool_byte b ≡ indicator b
byte true = refl
byte false = refl

module _ {n : ℕ} {p : ℕ → Bool} {j t : ℕ} (h : Counted n p j t) where
  pub counted_more : j < n → Counted n p (j + 1) (t + bool_byte (p j))
  counted_more l = record { within = omega arith; counted = fold_step ◌+◌ 0 j _ h.counted (byte (p j)) }

  counted-le : t ≤ j
  counted-le = omega (arith, count_le j p)

  counted-under : j < n → (b : Bool) → t + bool_byte b ≤ n
  counted-under l true = omega (arith, counted-le)
  counted-under l false = omega (arith, counted-le)

  pub counted_fits : j < n → Fits w64 n → (b : Bool) → Fits w64 (t + bool_byte b)
  counted_fits l f b = omega (arith, counted-under l b)

  -- a byte holds the count
  pub counted-byte : j < n → n ≤ 255 → (b : Bool) → Fits w8 (t + bool_byte b)
  counted-byte l f b = omega (arith, counted-under l b)

  pub counted_end : n ≤ j → (t ≡ count n p) × (t ≤ n)
  counted_end l = (subst (λ (k : ℕ). t ≡ count k p) (omega arith) h.counted, omega (arith, counted-le))

-- A count of at most 64 places fits 16 bits, and a count by blocks.
-- Assumes nothing.
use mathlib.Core.Path.{◌≡◌, sym, ap, ap₂, ◌∙◌, subst}
use mathlib.Core.Bool.{Bool, true, false}
use Prim.Native.Nat.{ℕ, ◌+◌, ◌-◌, ◌*◌, ◌≤◌, ◌<◌, zero-le}
use native.Mathlib.Omega.{arith}
use mir.Syntax.{w16}
use mir.Val.{bool_byte, Fits}
use Rattle.spec_range.specs.Fold.{indicator, count}
use Rattle.spec_range.proofs.Fold.{fold-parts, sums}
use Rattle.spec_range.proofs.Count.{count_le}
use Rattle.spec_range.proofs.Loop.{fold_none}
use Rattle.word_array.proofs.Counted.{Counted}

pub counted_fits : {n : ℕ} {p : ℕ → Bool} {j t : ℕ} → Counted n p j t → j < n → n ≤ 64 → (b : Bool) → Fits w16 (t + bool_byte b)
counted_fits {p = p} {j = j} h l f true = omega (arith, count_le j p)
counted_fits {p = p} {j = j} h l f false = omega (arith, count_le j p)

-- of more places no fewer are counted
pub count_longer : {n m : ℕ} (p : ℕ → Bool) → n ≤ m → count n p ≤ count m p
count_longer {n} {m} p l =
    let e : n + (m - n) ≡ m = omega arith in
    omega (arith, ap (λ (k : ℕ). count k p) e, fold-parts ◌+◌ 0 sums n (m - n) (λ k. indicator (p k)))

-- ---- a count that a loop takes block by block: how many of the first b blocks of 64 places, of `blocks`, meet a test

pub record Blocked (blocks : ℕ) (p : ℕ → Bool) (b t : ℕ) : Type 0 where
  pub within : b ≤ blocks
  pub counted : t ≡ count (64 * b) p
  pub small : t ≤ 64 * b

pub blocked_none : (blocks : ℕ) (p : ℕ → Bool) → Blocked blocks p 0 0
blocked_none blocks p = record { within = zero-le; counted = sym (fold_none ◌+◌ 0 _); small = zero-le }

module _ {blocks : ℕ} {p : ℕ → Bool} {b t : ℕ} (h : Blocked blocks p b t) where
  pub blocked_more : {r : ℕ} → b < blocks → (r ≡ count 64 (λ k. p (64 * b + k))) × (r ≤ 64) → Blocked blocks p (b + 1) (t + r)
  blocked_more l e =
      let s : 64 * b + 64 ≡ 64 * (b + 1) = omega arith in
      record {
        within = omega arith;
        counted = ap₂ ◌+◌ h.counted e.0 ∙ sym (fold-parts ◌+◌ 0 sums (64 * b) 64 (λ k. indicator (p k))) ∙ ap (λ (k : ℕ). count k p) s;
        small = omega (arith, h.small, e.1);
      }

  pub blocked_end : blocks ≤ b → t ≡ count (64 * blocks) p
  blocked_end l = subst (λ (k : ℕ). t ≡ count (64 * k) p) (omega arith) h.counted

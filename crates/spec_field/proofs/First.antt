-- The first number that passes a test: it is in range, and if any number in range passes, it passes. Assumes nothing.
use mathlib.Core.Path.{◌≡◌, refl, sym, subst}
use mathlib.Core.Bool.{Bool, true, false}
use mathlib.Core.Logic.{⊎_elim}
use Prim.Native.Nat.{ℕ, zero, suc, ◌+◌, ◌<◌, ◌≤◌}
use native.Mathlib.Nat.{eq-or-lt_of_le}
use native.Mathlib.Omega.{arith}
use lib.Dec.{T}
use Rattle.spec_field.specs.Symbols.{first}

pub first_below : (test : ℕ → Bool) (n i m : ℕ) → 0 < m → i + n ≤ m → first test n i < m
unfolding first
first_below test zero i m hm h = hm
first_below test (suc n) i m hm h = either (test i) (omega arith) (first_below test n (suc i) m hm (omega arith))
  where
    either : (b : Bool) {x y : ℕ} → x < m → y < m → (elim b as (λ _. ℕ) [ true ↦ x | false ↦ y ]) < m
    either true hx hy = hx
    either false hx hy = hy

pub first_passes : (test : ℕ → Bool) (n i k : ℕ) → i ≤ k → k < i + n → T (test k) → T (test (first test n i))
unfolding first
first_passes test zero i k h l t = absurd (omega arith)
first_passes test (suc n) i k h l t = either (first test n (suc i)) (λ l'. first_passes test n (suc i) k l' (omega arith) t) (test i) refl
  where
    either : (r : ℕ) → (i < k → T (test r)) → (b : Bool) → test i ≡ b → T (test (elim b as (λ _. ℕ) [ true ↦ i | false ↦ r ]))
    either r later true e = subst T (sym e) tt
    either r later false e =
        ⊎_elim (λ q. absurd (subst T e (subst (λ (m : ℕ). T (test m)) (sym q) t))) later (eq-or-lt_of_le h)

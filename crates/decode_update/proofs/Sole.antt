-- The symbol that alone has the peak of a column, after one more row.
-- Assumes nothing.
use mathlib.Core.Path.{◌≡◌, refl, ap, ◌∙◌}
use mathlib.Core.Bool.{Bool, true, false}
use Prim.Native.Nat.{ℕ, suc, ◌+◌, max, ◌<◌}
use native.Mathlib.Nat.{le_refl, le_step, le_of_lt, max-eq_left, max-eq_right, ne_of_lt}
use native.Mathlib.Decide.{dec_lt}
use native.Mathlib.Omega.{arith}
use borrow.Author.Tests.{lt-ltb, le-ltb, eq-eqb, ne_eqb}
use lib.Dec.{eqb}
use Rattle.spec_range.specs.Fold.{fold, indicator, largest}
use Rattle.spec_range.proofs.Fold.{fold-unit, sums}
use Rattle.spec_range.proofs.Count.{le_largest}
use Rattle.decode_update.specs.Column.{rows_with, Sole, none, shared, alone, climbed}

module _ (f : ℕ → ℕ) (c : ℕ) where
  rows_with_more : (y : ℕ) (b : Bool) → eqb (f c) y ≡ b → rows_with (suc c) f y ≡ rows_with c f y + indicator b
  unfolding rows_with fold
  rows_with_more y b e = ap (λ (b : Bool). rows_with c f y + indicator b) e

  above : largest c f < f c → Sole (suc c) f (f c) (suc c)
  unfolding rows_with
  above l =
      alone (le_refl (suc c)) refl (omega arith)
      (rows_with_more (f c) true (eq-eqb (f c) (f c) refl) ∙ ap (λ (x : ℕ). x + 1)
      (fold-unit ◌+◌ 0 sums c _ (λ k h. ap indicator (ne_eqb (f k) (f c) (ne_of_lt (omega (arith, le_largest c f h)))))))

  equal : {y s : ℕ} → f c ≡ y → Sole c f y s → Sole (suc c) f y 0
  equal e (none z) = none z
  equal {y} e (shared h) = shared (omega (arith, rows_with_more y true (eq-eqb (f c) y e)))
  equal {y} e (alone l t p h) = shared (omega (arith, rows_with_more y true (eq-eqb (f c) y e)))

  below : {y s : ℕ} → f c < y → Sole c f y s → Sole (suc c) f y s
  below l (none z) = none z
  below {y} l (shared h) = shared (omega (arith, rows_with_more y false (ne_eqb (f c) y (ne_of_lt l))))
  below {y} l (alone k t p h) = alone (le_step k) t p (omega (arith, rows_with_more y false (ne_eqb (f c) y (ne_of_lt l))))

  pub sole_more : {y s : ℕ} → y ≡ largest c f → Sole c f y s → Sole (suc c) f (max y (f c)) (climbed y s (f c) (suc c))
  unfolding climbed
  sole_more {y} {s} e h = go (dec_lt y (f c)) (dec_lt (f c) y)
    where
      go : Dec (y < f c) → Dec (f c < y) → Sole (suc c) f (max y (f c)) (climbed y s (f c) (suc c))
      go (yes l) _ = rw (max-eq_right (le_of_lt l), lt-ltb y (f c) l) (above (omega arith))
      go (no l) (yes k) = rw (max-eq_left (le_of_lt k), le-ltb y (f c) (le_of_lt k), lt-ltb (f c) y k) (below k h)
      go (no l) (no k) =
          rw (max-eq_left {n = y} {m = f c} (omega arith), le-ltb y (f c) (omega arith), le-ltb (f c) y (omega arith)) (equal (omega arith) h)

-- Division by g, of degree d, goes by the places of g below d.
-- Assumes nothing.
use mathlib.Core.Path.{◌≡◌, refl, ap, ap₂, ◌∙◌}
use mathlib.Core.List.{List, ◌∷◌}
use Prim.Native.Nat.{ℕ, zero, suc, pred, ◌<◌}
use Rattle.spec_range.specs.Table.{table}
use Rattle.spec_range.proofs.Table.{table_same}
use Rattle.spec_field.specs.Field.{FieldOps}
use Rattle.spec_word.specs.Division.{before, coefficients, all_zero, reduce, remainder, quotient, divides}

module _ (F : FieldOps) (d : ℕ) {g g' : ℕ → ℕ} (same : (i : ℕ) → i < d → g i ≡ g' i) where
  pub remainder_by_lem : (k : ℕ) (w : ℕ → ℕ) → remainder F d g k w ≡ remainder F d g' k w
  unfolding remainder reduce
  remainder_by_lem zero w = refl
  remainder_by_lem (suc k) w =
      ap (λ (R : List ℕ). table d (reduce F d g (coefficients R) (w 0))) (remainder_by_lem k (λ j. w (suc j)))
      ∙ table_same d (λ i l. let R = coefficients (remainder F d g' k (λ j. w (suc j))) in
      ap (λ (x : ℕ). F.add (before (w 0) R i) (F.mul (R (pred d)) x)) (same i l))

  pub quotient_by : (k : ℕ) (w : ℕ → ℕ) → quotient F d g k w ≡ quotient F d g' k w
  unfolding quotient
  quotient_by zero w = refl
  quotient_by (suc k) w =
      ap₂ (λ (R Q : List ℕ). coefficients R (pred d) ∷ Q) (remainder_by_lem k (λ j. w (suc j))) (quotient_by k (λ j. w (suc j)))

  pub divides_by : (k : ℕ) (w : ℕ → ℕ) → divides F d g k w ≡ divides F d g' k w
  unfolding divides
  divides_by k w = ap (all_zero d) (remainder_by_lem k w)

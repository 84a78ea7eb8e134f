-- SCOPE 4.32: Division of a polynomial by a monic g of degree d, d at least 1, by Horner's rule from the highest coefficient.
-- Assumes nothing.
use Rattle.std.specs.Prelude.{ℕ, zero, suc, pred, Bool, List, [], ◌∷◌, eqb, get_or}
use Rattle.spec_range.specs.Fold.{all}
use Rattle.spec_range.specs.Table.{table}
use Rattle.spec_field.specs.Field.{FieldOps}

-- the polynomial x·R + a
unfoldable pub before : ℕ → (ℕ → ℕ) → ℕ → ℕ
before a R zero = a
before a R (suc i) = R i

-- the coefficients of a list, 0 from its end on
abbrev pub coefficients : List ℕ → ℕ → ℕ
coefficients l i = get_or l i 0

-- SCOPE 4.4: whether all d symbols of a remainder are zero
unfoldable pub all_zero : ℕ → List ℕ → Bool
all_zero d R = all d (λ i. eqb (coefficients R i) 0)

module _ (F : FieldOps) (d : ℕ) (g : ℕ → ℕ) where
  open F use {add as ◌⊕◌, mul as ◌⊗◌}

  infixl 60 ◌⊕◌
  infixl 70 ◌⊗◌
  -- x·R + a less the multiple of g that takes its coefficient of x^d away (to subtract is to add)
  unfoldable pub reduce : (ℕ → ℕ) → ℕ → ℕ → ℕ
  reduce R a i = before a R i ⊕ R (pred d) ⊗ g i

  -- SCOPE 4.32: the remainder of w 0 + w 1·x + .. + w (k - 1)·x^(k - 1): d symbols from x^0
  unfoldable pub remainder : ℕ → (ℕ → ℕ) → List ℕ
  remainder zero w = table d (λ i. 0)
  remainder (suc k) w =
      let R = remainder k (λ j. w (suc j)) in
      table d (reduce (coefficients R) (w 0))

  -- SCOPE 4.6: the quotient of the same: k symbols from x^0
  unfoldable pub quotient : ℕ → (ℕ → ℕ) → List ℕ
  quotient zero w = []
  quotient (suc k) w = coefficients (remainder k (λ j. w (suc j))) (pred d) ∷ quotient k (λ j. w (suc j))

  -- SCOPE 3.7, 4.4: g divides the polynomial of k coefficients: all d symbols of its remainder are zero
  unfoldable pub divides : ℕ → (ℕ → ℕ) → Bool
  divides k w = let R = remainder k w in all_zero d R

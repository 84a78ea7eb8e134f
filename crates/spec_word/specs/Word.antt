-- SCOPE 2: Words. A word is a list; read as a function of its places it has the period n, so that a turn is a shift of the argument.
-- Assumes nothing.
use Rattle.std.specs.Prelude.{◌≡◌, ℕ, ◌+◌, ◌-◌, ◌%◌, ◌<◌, Bool, not, List, eqb, length, get_or}
use Rattle.spec_range.specs.Fold.{fold, count}
use Rattle.spec_range.specs.Table.{table}
use Rattle.spec_field.specs.Field.{FieldOps}

-- SCOPE 2.2: a list of n bytes, each of them a symbol
pub record IsWord (F : FieldOps) (n : ℕ) (w : List ℕ) : Type 0 where
  pub size : length w ≡ n
  pub symbol : (j : ℕ) → j < n → get_or w j 0 < F.q

-- SCOPE 2.2: the symbol at place j mod n, which is the coefficient of that power of x
unfoldable pub at : ℕ → List ℕ → ℕ → ℕ
at n w j = get_or w (j % n) 0

-- SCOPE 2.8: a symbol is not zero
abbrev pub nonzero : ℕ → Bool
nonzero a = not (eqb a 0)

-- SCOPE 2.8: how many places below n are not zero
unfoldable pub weight : ℕ → (ℕ → ℕ) → ℕ
weight n w = count n (λ j. nonzero (w j))

-- SCOPE 4.30: how many places below n differ between two words
unfoldable pub distance : ℕ → (ℕ → ℕ) → (ℕ → ℕ) → ℕ
distance n w v = count n (λ j. not (eqb (w j) (v j)))

-- SCOPE 2.4: turned by t: place k has what place (k - t) mod n had, and t counts modulo n (2.5)
unfoldable pub turn : ℕ → ℕ → List ℕ → List ℕ
turn n t w = table n (λ k. at n w (k + (n - t % n)))

module _ (F : FieldOps) where
  open F use {add as ◌⊕◌, mul as ◌⊗◌}

  infixl 60 ◌⊕◌
  infixl 70 ◌⊗◌
  -- SCOPE 1.3: the sum of f 0, .., f (n - 1) in the field
  abbrev pub sum : ℕ → (ℕ → ℕ) → ℕ
  sum n f = fold ◌⊕◌ 0 n f

  -- SCOPE 2.3: place m of a product modulo x^n − 1: the sum over u of a's symbol at u times b's at (m - u) mod n
  unfoldable pub product : ℕ → (ℕ → ℕ) → (ℕ → ℕ) → ℕ → ℕ
  product n a b m = sum n (λ u. a u ⊗ b (m + (n - u)))

  -- SCOPE 2.6: a word times the symbol c, at each place
  unfoldable pub scale : ℕ → ℕ → List ℕ → List ℕ
  scale n c w = table n (λ j. c ⊗ at n w j)

  -- SCOPE 2.7: the sum of two words, at each place
  unfoldable pub plus : ℕ → List ℕ → List ℕ → List ℕ
  plus n w v = table n (λ j. at n w j ⊕ at n v j)

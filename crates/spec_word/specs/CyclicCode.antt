-- SCOPE 3.7: The cyclic code of length n that a generator g makes, g a function from exponents to symbols.
-- Assumes nothing.
use Rattle.std.specs.Prelude.{◌≡◌, cond, ◌||◌, ℕ, suc, ◌<◌, T, eqb}
use Rattle.spec_field.specs.Field.{FieldOps}
use Rattle.spec_word.specs.Division.{divides}

-- SCOPE 3.7: x^n − 1, which is x^n + 1
unfoldable pub unity : ℕ → ℕ → ℕ
unity n i = cond (eqb i 0 || eqb i n) 1 0

-- SCOPE 3.7: g of degree d, at least 1, is monic and divides x^n − 1
pub record Generator (F : FieldOps) (n d : ℕ) (g : ℕ → ℕ) : Type 0 where
  pub degree_pos : 0 < d
  pub degree_lt : d < n
  pub symbols : (i : ℕ) → g i < F.q
  pub monic : g d ≡ 1
  pub above : (i : ℕ) → d < i → g i ≡ 0
  pub divides_unity : T (divides F d g (suc n) (unity n))

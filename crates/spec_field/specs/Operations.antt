-- SCOPE 1.10: The three field operations for all inputs, refused ones too: by 3, 11 or 13, the first that applies.
-- Assumes nothing.
use Rattle.std.specs.Prelude.{ℕ, ◌^◌, cond, [], ◌∷◌, ltb, leb, eqb}
use Rattle.spec_field.specs.Symbols.{sum, product, inverse}
use Rattle.spec_field.specs.Answer.{Answer, answer, or_else}

-- SCOPE 7.3: refused by 3 where p is 0 or above 6
abbrev pub no_field : ℕ → ℕ → ℕ
no_field p rest = cond (eqb p 0) 3 (cond (ltb 6 p) 3 rest)

-- SCOPE 7.11: refused by 11 where a is no symbol
abbrev pub no_symbol : ℕ → ℕ → ℕ → ℕ
no_symbol p a rest = cond (leb (2 ^ p) a) 11 rest

-- SCOPE 7.14: the first number that applies to p and two symbols
unfoldable pub field_refusal : ℕ → ℕ → ℕ → ℕ
field_refusal p a b = no_field p (no_symbol p a (no_symbol p b 0))

-- SCOPE 7.13: the same for the inverse of a; by 13 where a is zero
unfoldable pub inverse_refusal : ℕ → ℕ → ℕ
inverse_refusal p a = or_else (field_refusal p a a) (cond (eqb a 0) 13 0)

-- SCOPE 1.10: what the operation sum answers
abbrev pub sum_answer : ℕ → ℕ → ℕ → Answer
sum_answer p a b = answer (field_refusal p a b) (sum a b ∷ [])

-- SCOPE 1.10: what the operation product answers
abbrev pub product_answer : ℕ → ℕ → ℕ → Answer
product_answer p a b = answer (field_refusal p a b) (product p a b ∷ [])

-- SCOPE 1.10: what the operation inverse answers
abbrev pub inverse_answer : ℕ → ℕ → Answer
inverse_answer p a = answer (inverse_refusal p a) (inverse p a ∷ [])

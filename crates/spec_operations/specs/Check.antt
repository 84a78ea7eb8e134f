-- SCOPE 4.3: Check, for all inputs.
-- Assumes nothing.
use Rattle.std.specs.Prelude.{List, [], ◌∷◌, ℕ}
use Rattle.spec_field.specs.Answer.{Answer, answer}
use Rattle.spec_book.specs.Layout.{duals_in}
use Rattle.spec_book.specs.Conditions.{refusal}

-- SCOPE 4.3: what check answers: L, or the refusal number
abbrev pub check_answer : List ℕ → Answer
check_answer bytes = answer (refusal bytes) (duals_in bytes ∷ [])

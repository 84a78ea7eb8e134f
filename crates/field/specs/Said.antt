-- What the field operations answer.
-- Assumes nothing.
use Rattle.std.specs.Prelude.{[], ◌∷◌, ℕ, Result, Ok, Err}
use Rattle.spec_field.specs.Answer.{Answer, done, refused}
use Rattle.refusal.specs.declared.Refusal.{Refusal}
use Rattle.refusal.specs.Number.{number_of}

-- the symbol, or the number
abbrev pub said : Result ℕ Refusal → Answer
said (Ok a) = done (a ∷ [])
said (Err why) = refused (number_of why)

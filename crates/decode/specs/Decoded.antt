-- What decode answers.
-- Assumes nothing.
use Rattle.std.specs.Prelude.{[], ◌∷◌, Result, Ok, Err}
use Rattle.spec_field.specs.Answer.{Answer, done, refused}
use Rattle.refusal.specs.declared.Refusal.{Refusal}
use Rattle.refusal.specs.Number.{number_of}
use Rattle.decode_rounds.specs.Kind.{letter_of}
use Rattle.decode.specs.declared.Decoded.{Decoded}

-- changed, rounds and the kind's letter, or the number
abbrev pub said : Result Decoded Refusal → Answer
said (Ok r) = done (r.changed ∷ r.rounds ∷ letter_of r.kind ∷ [])
said (Err why) = refused (number_of why)

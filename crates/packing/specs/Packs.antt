-- What a packing function returns, whatever type gives the number of a refusal.
-- Assumes nothing.
use Rattle.std.specs.Prelude.{◌≡◌, ℕ, Result, Ok, Err}
use Rattle.spec_field.specs.Answer.{Answer}
use Rattle.spec_operations.specs.Packed.{result_of}

-- the result over C of a value's answer, or the byte that the refusal is converted to
abbrev pub Packs : {A E : Type 0} → (E → ℕ → Type 0) → (A → Answer) → Result A E → ℕ → Type 0
Packs converts answer_of (Ok value) k = k ≡ result_of (answer_of value)
Packs converts answer_of (Err why) k = converts why k

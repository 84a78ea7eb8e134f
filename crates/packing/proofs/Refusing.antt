-- A refusal that has a name is packed as the number that the answer says.
-- Assumes nothing.
use mathlib.Core.Path.{◌≡◌, sym, ap, ◌∙◌}
use Prim.Native.Nat.{ℕ}
use Rattle.std.specs.Prelude.{Result, Ok, Err}
use Rattle.spec_field.specs.Answer.{Answer, refused}
use Rattle.spec_operations.specs.Packed.{result_of}
use Rattle.refusal.specs.declared.Refusal.{Refusal}
use Rattle.refusal.specs.Number.{number_of, Numbers}
use Rattle.packing.specs.Packs.{Packs}

-- where `said` reads an error as its number, a packed result is that of what it says
pub packed_said : {A : Type 0} (said : Result A Refusal → Answer) → ((why : Refusal) → said (Err why) ≡ refused (number_of why))
    → (r : Result A Refusal) {k : ℕ} → Packs Numbers (λ value. said (Ok value)) r k → k ≡ result_of (said r)
packed_said said number_is (Ok value) packs = packs
packed_said said number_is (Err why) packs = packs ∙ ap result_of (sym (number_is why))

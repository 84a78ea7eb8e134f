-- How many words are held, counted record by record.
-- Assumes nothing.
use mathlib.Core.Path.{◌≡◌, refl, sym, ap, ap₂, ◌∙◌}
use mathlib.Core.Bool.{Bool, true, false}
use mathlib.Core.List.{List, [], ◌∷◌}
use Prim.Native.Nat.{ℕ, zero, suc, ◌+◌, ◌*◌, ◌≤◌, ◌<◌}
use mir.Val.{bool_byte}
use native.Mathlib.Omega.{arith}
use lib.ListN.{get_or, take}
use lib.Seq.{get_or-take}
use Rattle.spec_range.specs.Fold.{fold, indicator}
use Rattle.spec_range.proofs.Count.{count_le}
use Rattle.spec_operations.specs.GameTrips.{held_letter, held_records}
use Rattle.std.specs.Prelude.{Ok}
use Rattle.burst.specs.Said.{list_bytes, made_bytes, blank, record_at}
use Rattle.burst.specs.declared.Record.{Record}
use Rattle.burst.specs.declared.Burst.{Burst}

-- the letter of a record, in the bytes of the list
letter_at : (records : List Record) (m : ℕ) → get_or (list_bytes records) (m * 3) 0 ≡ (record_at records m).kind
letter_at [] m = refl
letter_at (x ∷ records) zero = refl
letter_at (x ∷ records) (suc m) =
    let three : suc m * 3 ≡ suc (suc (suc (m * 3))) = omega arith in
    ap (λ (k : ℕ). get_or (list_bytes (x ∷ records)) k 0) three ∙ letter_at records m

-- a test as a number
byte-indicator : (b : Bool) → bool_byte b ≡ indicator b
byte-indicator true = refl
byte-indicator false = refl

pub byte_le : (b : Bool) → bool_byte b ≤ 1
byte_le true = omega arith
byte_le false = omega arith

-- one record more
pub held_more : (made : Burst) (m : ℕ) {held : ℕ} {x : Record} {b : Bool} → m < made.count → held ≡ held_records m (made_bytes (Ok made))
    → x ≡ record_at made.records m → b ≡ held_letter x.kind → held + bool_byte b ≡ held_records (m + 1) (made_bytes (Ok made))
unfolding fold
held_more made m {b = b} l h r e =
    ap₂ ◌+◌ h
    (byte-indicator b ∙ ap indicator e
    ∙ ap (λ (x : Record). indicator (held_letter x.kind)) (r ∙ sym (get_or-take made.count made.records m blank l))
    ∙ ap (λ (k : ℕ). indicator (held_letter k)) (sym (letter_at (take made.count made.records) m)))
    ∙ ap (λ (k : ℕ). held_records k (made_bytes (Ok made))) next
  where
    next : suc m ≡ m + 1
    next = omega arith

-- no more than there are
pub held_le : (m : ℕ) (records : List ℕ) → held_records m records ≤ m
held_le m records = count_le m (λ i. held_letter (get_or records (i * 3) 0))

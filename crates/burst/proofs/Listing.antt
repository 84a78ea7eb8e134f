-- What a caller that fills a list of records from those by value needs: how many there are, and what the list holds in the end.
-- Assumes nothing.
use mathlib.Core.Path.{◌≡◌, refl, sym, ap, ap₂, ◌∙◌}
use mathlib.Core.List.{List, [], ◌++◌, append-nil}
use Prim.Native.Nat.{ℕ, zero, suc, ◌≤◌}
use native.Mathlib.Nat.{le_of_eq}
use native.Mathlib.Omega.{arith}
use lib.ListN.{length, take, drop, drop_of_length-le}
use Rattle.spec_field.specs.Answer.{left}
use Rattle.spec_field.proofs.Refusals.{neither}
use Rattle.spec_book.specs.Conditions.{refusal}
use Rattle.spec_operations.specs.Burst.{burst_input_refusal, burst_refusal}
use Rattle.spec_operations.proofs.Burst.{TakenBurst, taken_burst}
use Rattle.std.specs.Prelude.{Ok}
use Rattle.burst.specs.Said.{list_bytes, made_bytes, counted}
use Rattle.burst.specs.declared.Record.{Record}
use Rattle.burst.specs.declared.Burst.{Burst}
use Rattle.burst.proofs.Loop.{list_bytes_append}

-- a whole call with the number 0
pub taken : (bytes : List ℕ) (words : ℕ) (r : List ℕ) (room list size : ℕ) → burst_refusal bytes words r room list size ≡ 0 → TakenBurst bytes words r room list size
unfolding burst_refusal
taken bytes words r room list size e = taken_burst bytes words r room list size (neither (refusal bytes) (burst_input_refusal bytes words r room list size) e).1

-- no more records are made than any bound that holds for a burst that is taken
pub counted_most : (number words most : ℕ) → (number ≡ 0 → words ≤ most) → counted number words ≤ most
counted_most zero words most h = h refl
counted_most (suc number) words most h = omega arith

-- the first records of a list are those that were made, and where none were made it is as it was
pub listed : (number words : ℕ) (new : List ℕ) (made : Burst) (records : List Record) → made.count ≡ counted number words → (number ≡ 0 → length records ≡ words)
    → made_bytes (Ok made) ≡ left number new [] → list_bytes (take made.count made.records ++ drop made.count records) ≡ left number new (list_bytes records)
listed zero words new made records e long h =
    list_bytes_append (take made.count made.records) (drop made.count records)
    ∙ ap₂ (λ (l : List ℕ) (xs : List Record). l ++ list_bytes xs) h (drop_of_length-le records {i = made.count} (le_of_eq (long refl ∙ sym e)))
    ∙ append-nil new
listed (suc number) words new made records e long h = ap (λ (k : ℕ). list_bytes (take k made.records ++ drop k records)) e

-- What a burst answers by value, its records as bytes, and what it answers and leaves for all inputs.
-- Assumes nothing.
use Rattle.std.specs.Prelude.{◌≡◌, List, [], ◌∷◌, ◌++◌, ℕ, zero, suc, ◌≤◌, get_or, take, Result, Ok, Err}
use Rattle.spec_decoding.specs.Decode as D
use Rattle.spec_operations.specs.Burst.{Bursts}
use Rattle.refusal.specs.declared.Refusal.{Refusal}
use Rattle.refusal.specs.Number.{said}
use Rattle.burst.specs.declared.Record.{Record}
use Rattle.burst.specs.declared.Burst.{Burst}

-- a record as its three bytes
abbrev pub record_bytes : Record → List ℕ
record_bytes x = x.kind ∷ x.rounds ∷ x.changed ∷ []

-- records as the bytes that they lie in, one after another
abbrev pub list_bytes : List Record → List ℕ
list_bytes [] = []
list_bytes (x ∷ xs) = record_bytes x ++ list_bytes xs

-- what a burst answers by value: its records, or why it is refused
abbrev pub Outcome : Type 0
Outcome = Result Burst Refusal

-- how many records were made: none by a burst that is refused
abbrev pub count_of : Outcome → ℕ
count_of (Ok made) = made.count
count_of (Err why) = 0

-- the records that were made
abbrev pub made_bytes : Outcome → List ℕ
made_bytes (Ok made) = list_bytes (take made.count made.records)
made_bytes (Err why) = []

-- how many records a burst with this refusal number makes: one a word, or none
abbrev pub counted : ℕ → ℕ → ℕ
counted zero words = words
counted (suc number) words = 0

-- what stands past the end of a list of records
abbrev pub blank : Record
blank = record { kind = 0; rounds = 0; changed = 0 }

-- record m of a list
abbrev pub record_at : List Record → ℕ → Record
record_at records m = get_or records m blank

-- from place m on a list of records has nothing
pub record Blank (m : ℕ) (records : List Record) : Type 0 where
  pub blank_at : (k : ℕ) → m ≤ k → record_at records k ≡ blank

-- past the records that were made there are none
abbrev pub BlankAfter : Outcome → Type 0
BlankAfter (Ok made) = Blank made.count made.records
BlankAfter (Err why) = Unit {0}

-- a burst with first refusal number `number`, and the results of its words where that is 0: what it answers by value, r, and the two buffers in the end
pub record Answered (number words : ℕ) (word : ℕ → D.Result) (answers₀ entries₀ : List ℕ) (r : Outcome) (answers entries : List ℕ) : Type 0 where
  pub bursts : Bursts number words word answers₀ [] entries₀ (said r) answers (made_bytes r) entries
  pub count_is : count_of r ≡ counted number words
  pub rest_is : BlankAfter r

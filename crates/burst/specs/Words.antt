-- What decoding the words of a burst is given and leaves.
-- Assumes nothing.
use Rattle.std.specs.Prelude.{◌≡◌, List, [], ◌∷◌, ℕ, ◌*◌, ◌^◌, ◌≤◌, ◌<◌, length, take}
use Rattle.spec_decoding.specs.Decode.{Result}
use Rattle.spec_operations.specs.Burst.{record_of, answers_of, records_of, last_entries}
use Rattle.word_array.specs.Stored.{place}
use Rattle.book.specs.declared.Params.{Params}
use Rattle.decode_rounds.specs.Kind.{letter_of}
use Rattle.decode.specs.declared.Decoded.{Decoded}
use Rattle.burst.specs.Said.{record_bytes, list_bytes, Blank}
use Rattle.burst.specs.declared.Record.{Record}

-- a burst that is not refused, for the parameters c of an open book
pub record Received (c : Params) (words : ℕ) (received : List ℕ) : Type 0 where
  pub low : 1 ≤ words
  pub high : words ≤ 16
  pub size : length received ≡ c.n * words
  pub symbol : (k : ℕ) → k < length received → place received k < 2 ^ c.p

-- the record of what decode tells
abbrev pub Told : Decoded → Record → Type 0
Told r x = record_bytes x ≡ letter_of r.kind ∷ r.rounds ∷ r.changed ∷ []

-- a word was decoded with the result x
pub record DecodedWord (x : Result) (r : Record) (answer entries : List ℕ) : Type 0 where
  pub record_is : record_bytes r ≡ record_of x
  pub answer_is : answer ≡ x.answer
  pub entries_is : entries ≡ x.entries

-- the words were decoded with these results
pub record DecodedWords (words : ℕ) (word : ℕ → Result) (r : List Record) (answers entries : List ℕ) : Type 0 where
  pub records_are : list_bytes (take words r) ≡ records_of words word
  pub rest_is : Blank words r
  pub answers_are : answers ≡ answers_of words word
  pub entries_are : entries ≡ last_entries words word

-- What opening a book answers and leaves, and the room that it and a matrix take.
-- Assumes nothing.
use Rattle.std.specs.Prelude.{◌≡◌, Bool, true, false, cond, List, ℕ, ◌*◌, ◌^◌, ◌<◌, ◌≤◌, ltb, Result, Ok, Err}
use Rattle.spec_book.specs.Layout.{is_long, symbol_digits, word_length, duals_in, book_of}
use Rattle.spec_book.specs.Conditions.{refusal}
use Rattle.book.specs.Params.{Read, Tabulated, Describes}
use Rattle.refusal.specs.declared.Refusal.{Refusal}
use Rattle.refusal.specs.Number.{number_of}
use Rattle.book.specs.declared.Params.{Params}

-- p is below 4, whatever else the bytes are
abbrev pub few_symbols : List ℕ → Bool
few_symbols bytes = ltb (symbol_digits bytes) 4

-- the room for a table of the generator's multiples that opening asks for
unfoldable pub table_room : List ℕ → ℕ
table_room bytes = cond (few_symbols bytes) (cond (is_long bytes) 4096 1024) 8192

-- size is that of the matrix where the bytes are accepted, and never more than there is room for
pub record MatrixBound (bytes : List ℕ) (size : ℕ) : Type 0 where
  pub exact : refusal bytes ≡ 0 → size ≡ 2 ^ symbol_digits bytes * word_length bytes
  pub most : size ≤ 4080
  pub few : few_symbols bytes ≡ true → size ≤ 2040
  pub few_short : few_symbols bytes ≡ true → is_long bytes ≡ false → size ≤ 504

-- a room of so many entries holds the matrix, as long as it is known to be
pub record MatrixFits (bytes : List ℕ) (entries : ℕ) : Type 0 where
  pub fits : (size : ℕ) → MatrixBound bytes size → size ≤ entries
  pub most : entries ≤ 4080

-- what the conditions 5 to 8 are asked of: c was read off readable bytes, and t is the table of the generator's multiples
pub record Gathered (bytes : List ℕ) (c : Params) (t : List ℕ) : Type 0 where
  pub read : Read bytes c.p c.n
  pub table : Tabulated bytes c.p c.n t
  pub degree_is : c.degree ≡ (book_of bytes).degree
  pub rounds_is : c.rounds ≡ (book_of bytes).most_rounds
  pub places_is : c.places ≡ (book_of bytes).most_places
  pub duals_is : c.duals ≡ duals_in bytes

-- the answer to opening bytes, and the room t that was lent: the bytes are described and the table is made, or the number is theirs
abbrev pub Opens : List ℕ → Result Params Refusal → List ℕ → Type 0
Opens bytes (Ok c) t = Describes bytes c × Tabulated bytes c.p c.n t
Opens bytes (Err why) t = (number_of why ≡ refusal bytes) × (0 < number_of why)

-- what was read off bytes that are accepted, and the table of their generator's multiples
pub record OpenBook (bytes : List ℕ) (c : Params) (t : List ℕ) : Type 0 where
  pub describes : Describes bytes c
  pub table_is : Tabulated bytes c.p c.n t

-- the same, whichever bytes they are: what makes the reads safe once a book is open
pub record SomeBook (c : Params) (t : List ℕ) : Type 0 where
  pub bytes : List ℕ
  pub open_book : OpenBook bytes c t

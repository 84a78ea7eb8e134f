-- What the tests of the bytes, conditions 1 to 4, leave known.
-- Assumes nothing.
use Rattle.std.specs.Prelude.{◌≡◌, Bool, not, cond, List, ℕ, ◌+◌, ◌*◌, ◌^◌, ◌≤◌, ◌<◌, T, eqb, leb, length, get_or}
use Rattle.spec_range.specs.Table.{table}
use Rattle.spec_book.specs.Layout.{width, byte, symbol_digits, word_length, Whole}
use Rattle.spec_book.specs.Conditions.{length_ok, kinds_ok, sizes_ok, symbols_ok, unless}

-- the first number from 1 to 4 that applies to the bytes, 0 where none does
unfoldable pub records_refusal : List ℕ → ℕ
records_refusal bytes = unless (length_ok bytes) 1 (unless (kinds_ok bytes) 2 (unless (sizes_ok bytes) 3 (unless (symbols_ok bytes) 4 0)))

-- bytes to which none of the conditions 1 to 4 applies
pub record Readable (bytes : List ℕ) : Type 0 where
  pub lengths : T (length_ok bytes)
  pub whole : Whole bytes
  pub kinds : T (kinds_ok bytes)
  pub sizes : T (sizes_ok bytes)
  pub symbols : T (symbols_ok bytes)

-- the number below which the byte at place i of a record must be: 255 for its kind, then q for the n symbols, then 1
abbrev pub bound : ℕ → ℕ → ℕ → ℕ
bound q n i = cond (eqb i 0) 255 (cond (leb i n) q 1)

-- the bounds of a book's bytes, whose records have that many blocks
pub record Bounds (bytes : List ℕ) (blocks : ℕ) (bounds : List ℕ) : Type 0 where
  pub digits : 1 ≤ symbol_digits bytes
  pub spanned : 64 * blocks ≡ 1 + width bytes
  pub bound_at : bounds ≡ table 256 (bound (2 ^ symbol_digits bytes) (word_length bytes))

-- the byte at place i of the record at `start` is below its bound
abbrev pub below : List ℕ → List ℕ → ℕ → ℕ → Bool
below bounds bytes start i = not (leb (get_or bounds i 0) (byte bytes (start + i)))

-- a record with a body lies at `start`
pub record Body (bytes : List ℕ) (start : ℕ) : Type 0 where
  pub room : start + (1 + width bytes) ≤ length bytes
  pub kind : byte bytes start < 255

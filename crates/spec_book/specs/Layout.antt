-- SCOPE 3: The bytes of a codebook: records, each a byte of kind and a body. The bodies of generator and dual words have `width` bytes, by the book's form.
-- Assumes nothing.
use Rattle.std.specs.Prelude.{◌≡◌, Bool, cond, List, ℕ, ◌+◌, ◌-◌, ◌*◌, ◌/◌, ◌%◌, ◌^◌, ◌≤◌, eqb, length, get_or}
use Rattle.spec_range.specs.Fold.{largest}
use Rattle.spec_range.specs.Table.{table}
use Rattle.spec_field.specs.Field.{FieldOps}
use Rattle.spec_field.specs.Symbols.{gf}
use Rattle.spec_word.specs.Word.{nonzero}
use Rattle.spec_word.specs.Division.{coefficients}
use Rattle.spec_book.specs.Book.{Book}

-- ---- where the records lie: their kind bytes are at 0, 3, 4 + width and 7 + width + (1 + width) × l, and each body follows

-- SCOPE 3.3: where the generator's kind byte is
abbrev pub generator_at : ℕ
generator_at = 3

-- SCOPE 3.3: where the kind byte of I and D is
abbrev pub limits_at : ℕ → ℕ
limits_at width = 4 + width

-- SCOPE 3.3: where the kind byte of dual word l is; for l = L, the length of the book
abbrev pub dual_at : ℕ → ℕ → ℕ
dual_at width l = 7 + width + (1 + width) * l

-- SCOPE 3.3: the count of dual words in a book of `size` bytes
abbrev pub dual_count : ℕ → ℕ → ℕ
dual_count width size = (size - (7 + width)) / (1 + width)

module _ (bytes : List ℕ) where
  -- SCOPE 3.1: byte i, 0 past the end
  abbrev pub byte : ℕ → ℕ
  byte i = get_or bytes i 0

  -- SCOPE 3.17: the book is of the long form: byte 3, the generator's kind, is 5
  abbrev pub is_long : Bool
  is_long = eqb (byte generator_at) 5

  -- SCOPE 3.4: the bytes of the body of a generator or a dual word
  unfoldable pub width : ℕ
  width = cond is_long 255 63

  -- SCOPE 3.3: L, the count of dual words that the length tells
  abbrev pub duals_in : ℕ
  duals_in = dual_count width (length bytes)

  -- SCOPE 3.1: place j of the body whose kind byte is at `kind`
  abbrev pub body_place : ℕ → ℕ → ℕ
  body_place start j = byte (start + 1 + j)

  -- SCOPE 3.1: s, the first byte of the body of kind 1
  abbrev pub size_exponent : ℕ
  size_exponent = byte 1

  -- SCOPE 3.1: p, the second byte of the body of kind 1
  abbrev pub symbol_digits : ℕ
  symbol_digits = byte 2

  -- SCOPE 2.1: n, from s
  abbrev pub word_length : ℕ
  word_length = 2 ^ size_exponent - 1

  -- SCOPE 1.1: the field of the book's symbols, GF(2^p)
  abbrev pub field_of : FieldOps
  field_of = gf symbol_digits

-- bytes of a right length: 1 to 32 dual words, and no byte more
pub record Whole (bytes : List ℕ) : Type 0 where
  pub count_low : 1 ≤ duals_in bytes
  pub count_high : duals_in bytes ≤ 32
  pub size : length bytes ≡ dual_at (width bytes) (duals_in bytes)

-- SCOPE 3.6: the highest place below n whose coefficient is not zero, 0 where there is none
unfoldable pub degree_of : ℕ → (ℕ → ℕ) → ℕ
degree_of n g = largest n (λ i. cond (nonzero (g i)) i 0)

-- SCOPE 3.1: the book that bytes hold
unfoldable pub book_of : List ℕ → Book
book_of bytes =
    let n = word_length bytes in
    let g = table (width bytes) (body_place bytes generator_at) in
    record {
      n = n;
      degree = degree_of n (coefficients g);
      generator = coefficients g;
      most_rounds = byte bytes (limits_at (width bytes) + 1);
      most_places = byte bytes (limits_at (width bytes) + 2);
      dual_count = duals_in bytes;
      dual = λ l j. body_place bytes (dual_at (width bytes) l) (j % n);
    }

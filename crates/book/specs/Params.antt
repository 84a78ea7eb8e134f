-- What the code reads off a book's bytes once, and what `check` answers.
-- Assumes nothing.
use Rattle.std.specs.Prelude.{◌≡◌, Bool, ◌&&◌, List, [], ◌∷◌, ℕ, ◌%◌, ◌≤◌, leb, Result, Ok, Err}
use Rattle.spec_field.specs.Answer.{Answer, done, refused}
use Rattle.sizes.specs.Blocks.{stride}
use Rattle.word_table.specs.Multiples.{word_of, Multiples}
use Rattle.spec_book.specs.Layout.{width, generator_at, body_place, symbol_digits, word_length, Whole, book_of}
use Rattle.spec_book.specs.Conditions.{refusal}
use Rattle.book_records.specs.Records.{Readable}
use Rattle.refusal.specs.declared.Refusal.{Refusal}
use Rattle.refusal.specs.Number.{number_of}
use Rattle.book.specs.declared.Params.{Params}

-- the count of dual words, or the number
abbrev pub said : Result ℕ Refusal → Answer
said (Ok L) = done (L ∷ [])
said (Err why) = refused (number_of why)

-- n is the length of the words in bytes of a right length
pub record Sized (bytes : List ℕ) (n : ℕ) : Type 0 where
  pub whole : Whole bytes
  pub n_is : n ≡ word_length bytes
  pub n_low : 1 ≤ n
  pub n_high : n ≤ width bytes

-- p and n were read off readable bytes
pub record Read (bytes : List ℕ) (p n : ℕ) : Type 0 where
  pub readable : Readable bytes
  pub sized : Sized bytes n
  pub p_is : p ≡ symbol_digits bytes

-- t is the table of the multiples of the generator in bytes
pub record Tabulated (bytes : List ℕ) (p n : ℕ) (t : List ℕ) : Type 0 where
  pub multiples : Multiples (stride n) p n t
  pub word : (j : ℕ) → word_of (stride n) n t j ≡ body_place bytes generator_at (j % n)

-- the test that the code makes of condition 6, of I and D
unfoldable pub limits_test : ℕ → ℕ → ℕ → Bool
limits_test n rounds places = leb 1 rounds && leb rounds 63 && leb 1 places && leb places n

-- c was read off bytes that are accepted
pub record Describes (bytes : List ℕ) (c : Params) : Type 0 where
  pub accepted : refusal bytes ≡ 0
  pub p_is : c.p ≡ symbol_digits bytes
  pub n_is : c.n ≡ (book_of bytes).n
  pub degree_is : c.degree ≡ (book_of bytes).degree
  pub rounds_is : c.rounds ≡ (book_of bytes).most_rounds
  pub places_is : c.places ≡ (book_of bytes).most_places
  pub duals_is : c.duals ≡ (book_of bytes).dual_count

-- SCOPE 7: The refusals 1 to 12, and 14 between 8 and 9, in their order, each as the test that is passed where it does not apply, and the first number whose test fails.
-- (13, the inverse of zero, is of the field alone: spec_field/Operations.)
-- Assumes nothing.
use Rattle.std.specs.Prelude.{Bool, not, cond, ◌&&◌, ◌||◌, List, ℕ, suc, ◌%◌, eqb, leb, ltb, length, get_or}
use Rattle.spec_range.specs.Fold.{all}
use Rattle.spec_field.specs.Field.{FieldOps}
use Rattle.spec_word.specs.Word.{at, weight, product}
use Rattle.spec_word.specs.Division.{divides}
use Rattle.spec_word.specs.CyclicCode.{unity}
use Rattle.spec_word.specs.Alike.{alike}
use Rattle.spec_book.specs.Book.{Book, is_code_word}
use Rattle.spec_book.specs.Layout.{generator_at, limits_at, dual_at, dual_count, byte, is_long, width, duals_in, body_place, size_exponent, symbol_digits, word_length, field_of, book_of}

-- ---- tests of the bytes

-- SCOPE 7.1: `size` is the length of a book with 1 to 32 dual words, where bodies have `width` bytes
unfoldable pub length_fits : ℕ → ℕ → Bool
length_fits width size = leb 1 (dual_count width size) && leb (dual_count width size) 32 && eqb size (dual_at width (dual_count width size))

module _ (bytes : List ℕ) where
  -- SCOPE 7.1: 1: there are 4 bytes, and the length is one of the form that byte 3 chooses; of either form where it chooses none
  unfoldable pub length_ok : Bool
  length_ok =
      let short = length_fits 63 (length bytes) in
      let long = length_fits 255 (length bytes) in
      leb 4 (length bytes) && cond (is_long bytes) long (short || not (eqb (byte bytes generator_at) 2) && long)

  -- SCOPE 7.2: 2: the kind bytes are 1, 2, 3 and then 4 for each dual word; in the long form 1, 5, 3 and 6
  unfoldable pub kinds_ok : Bool
  kinds_ok =
      eqb (byte bytes 0) 1
      && eqb (byte bytes generator_at) (cond (is_long bytes) 5 2)
      && eqb (byte bytes (limits_at (width bytes))) 3
      && all (duals_in bytes) (λ l. eqb (byte bytes (dual_at (width bytes) l)) (cond (is_long bytes) 6 4))

  -- SCOPE 7.3: 3: s is 2 to 6, and 7 or 8 in the long form; p is 1 to 6 and divides s
  unfoldable pub sizes_ok : Bool
  sizes_ok =
      leb (cond (is_long bytes) 7 2) (size_exponent bytes)
      && leb (size_exponent bytes) (cond (is_long bytes) 8 6)
      && leb 1 (symbol_digits bytes)
      && leb (symbol_digits bytes) 6
      && eqb (size_exponent bytes % symbol_digits bytes) 0

-- SCOPE 7.4: 4, at place j: c is a symbol, and zero where j is n or more
abbrev pub place_ok : ℕ → ℕ → ℕ → ℕ → Bool
place_ok q n j c = ltb c q && (ltb j n || eqb c 0)

module _ (bytes : List ℕ) where
  -- SCOPE 7.4: 4, at every place of the body of the record that starts at `start`
  unfoldable pub body_ok : ℕ → Bool
  body_ok start = all (width bytes) (λ j. place_ok (field_of bytes).q (word_length bytes) j (body_place bytes start j))

  -- SCOPE 7.15: 4, in every body of the book
  unfoldable pub symbols_ok : Bool
  symbols_ok = body_ok generator_at && all (duals_in bytes) (λ l. body_ok (dual_at (width bytes) l))

-- ---- tests of the book that the bytes hold

module _ (F : FieldOps) (B : Book) where
  open B use {n, degree, generator, most_rounds, most_places, dual_count, dual}

  -- SCOPE 7.5: 5: the generator has degree 1 or more, is monic, and divides x^n − 1
  unfoldable pub generator_ok : Bool
  generator_ok = leb 1 degree && eqb (generator degree) 1 && divides F degree generator (suc n) (unity n)

  -- SCOPE 7.6: 6: I is 1 to 63, and D is 1 to n
  unfoldable pub limits_ok : Bool
  limits_ok = leb 1 most_rounds && leb most_rounds 63 && leb 1 most_places && leb most_places n

  -- SCOPE 7.7: 7, of dual word l: 1 at place 0, a zero product with the generator, the weight of dual word 0
  unfoldable pub dual_ok : ℕ → Bool
  dual_ok l =
      eqb (dual l 0) 1
      && all n (λ m. eqb (product F n generator (dual l) m) 0)
      && eqb (weight n (dual l)) (weight n (dual 0))

  -- SCOPE 7.15: 7, of every dual word of the book
  unfoldable pub duals_ok : Bool
  duals_ok = all dual_count dual_ok

  -- SCOPE 7.8: 8: no two dual words are alike: none is like one before it
  unfoldable pub distinct_ok : Bool
  distinct_ok = all dual_count (λ l. all l (λ m. not (alike F n (dual m) (dual l))))

-- SCOPE 7.14: the number where the test fails, else what the next tests give
abbrev pub unless : Bool → ℕ → ℕ → ℕ
unless ok number rest = cond ok rest number

-- SCOPE 7.14: the first number from 5 to 8 that applies to the book, 0 where none does
unfoldable pub book_refusal : FieldOps → Book → ℕ
book_refusal F B = unless (generator_ok F B) 5 (unless (limits_ok F B) 6 (unless (duals_ok F B) 7 (unless (distinct_ok F B) 8 0)))

-- SCOPE 7.14: the first number from 1 to 8 that applies to the bytes, 0 where the codebook is accepted (3.16)
unfoldable pub refusal : List ℕ → ℕ
refusal bytes =
    unless (length_ok bytes) 1
    (unless (kinds_ok bytes) 2
    (unless (sizes_ok bytes) 3
    (unless (symbols_ok bytes) 4
    (book_refusal (field_of bytes) (book_of bytes)))))

-- ---- tests of an operation's input and outputs

-- SCOPE 7.19: 14, in burst: there are 1 to 16 words
unfoldable pub words_ok : ℕ → Bool
words_ok words = leb 1 words && leb words 16

-- SCOPE 7.9: 9, in code: a message has 1 to k symbols. (Other inputs have n, a burst n × M.)
unfoldable pub message_fits : ℕ → ℕ → Bool
message_fits k size = leb 1 size && leb size k

-- SCOPE 7.11: every input symbol is below q
unfoldable pub input_ok : ℕ → List ℕ → Bool
input_ok q input = all (length input) (λ j. ltb (get_or input j 0) q)

-- SCOPE 7.9, 7.10, 7.11: 9 where the input does not fit, 10 where an output is not exact, 11 for an input symbol of q or more
unfoldable pub input_refusal : ℕ → Bool → Bool → List ℕ → ℕ
input_refusal q fits exact input = unless fits 9 (unless exact 10 (unless (input_ok q input) 11 0))

-- SCOPE 7.12: in read, 12 for a word that is not a code word
unfoldable pub code_word_refusal : FieldOps → Book → List ℕ → ℕ
code_word_refusal F B w = unless (is_code_word F B (at B.n w)) 12 0

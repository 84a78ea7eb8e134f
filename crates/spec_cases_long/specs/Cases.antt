-- SCOPE 8.27: Book E, which is long, as bytes, and a decode by it: what the definitions give, and what SCOPE.md has. These cases are in a crate of their own
-- since they take longer to compute than all others together.
-- Assumes nothing.
use Rattle.std.specs.Prelude.{◌≡◌, ◌||◌, List, [], ◌∷◌, ◌++◌, ℕ, eqb}
use Rattle.spec_range.specs.Fold.{indicator}
use Rattle.spec_range.specs.Table.{table}
use Rattle.spec_field.specs.Symbols.{sum}
use Rattle.spec_word.specs.Word.{at}
use Rattle.spec_word.specs.Division.{coefficients}
use Rattle.spec_book.specs.Layout.{word_length}
use Rattle.spec_decoding.specs.Decode.{mended}
use Rattle.spec_cases.specs.Cases.{Shown, numbers, decoded, checks, codes, decodes}

-- SCOPE 3.5: a body of 255 bytes, zero after the symbols that are written
abbrev pub long_body : List ℕ → List ℕ
long_body symbols = table 255 (coefficients symbols)

-- SCOPE 3.2: the long book of s, p, g, I, D and one dual word
abbrev pub long_bytes : ℕ → ℕ → List ℕ → ℕ → ℕ → List ℕ → List ℕ
long_bytes s p g I D b = (1 ∷ s ∷ p ∷ 5 ∷ long_body g) ++ (3 ∷ I ∷ D ∷ 6 ∷ long_body b)

-- SCOPE 8.27: the generator of book E, which is the quotient of x^127 − 1 by 1 + x + x^7 and has degree 120, as a word of 127 symbols
abbrev pub generator_e : List ℕ
generator_e =
    1 ∷ 1 ∷ 1 ∷ 1 ∷ 1 ∷ 1 ∷ 1 ∷ 0 ∷ 1 ∷ 0 ∷ 1 ∷ 0 ∷ 1 ∷ 0 ∷ 0 ∷ 1 ∷ 1 ∷ 0 ∷ 0 ∷ 1 ∷ 1 ∷ 1 ∷ 0 ∷ 1 ∷ 1 ∷ 1 ∷ 0 ∷ 1 ∷ 0 ∷ 0 ∷ 1 ∷ 0 ∷
    1 ∷ 1 ∷ 0 ∷ 0 ∷ 0 ∷ 1 ∷ 1 ∷ 0 ∷ 1 ∷ 1 ∷ 1 ∷ 1 ∷ 0 ∷ 1 ∷ 1 ∷ 0 ∷ 1 ∷ 0 ∷ 1 ∷ 1 ∷ 0 ∷ 1 ∷ 1 ∷ 0 ∷ 0 ∷ 1 ∷ 0 ∷ 0 ∷ 1 ∷ 0 ∷ 0 ∷ 0 ∷
    1 ∷ 1 ∷ 1 ∷ 0 ∷ 0 ∷ 0 ∷ 0 ∷ 1 ∷ 0 ∷ 1 ∷ 1 ∷ 1 ∷ 1 ∷ 1 ∷ 0 ∷ 0 ∷ 1 ∷ 0 ∷ 1 ∷ 0 ∷ 1 ∷ 1 ∷ 1 ∷ 0 ∷ 0 ∷ 1 ∷ 1 ∷ 0 ∷ 1 ∷ 0 ∷ 0 ∷ 0 ∷
    1 ∷ 0 ∷ 0 ∷ 1 ∷ 1 ∷ 1 ∷ 1 ∷ 0 ∷ 0 ∷ 0 ∷ 1 ∷ 0 ∷ 1 ∷ 0 ∷ 0 ∷ 0 ∷ 0 ∷ 1 ∷ 1 ∷ 0 ∷ 0 ∷ 0 ∷ 0 ∷ 0 ∷ 1 ∷ 0 ∷ 0 ∷ 0 ∷ 0 ∷ 0 ∷ 0 ∷ []

-- SCOPE 8.27: book E, whose dual word is 1 + x + x^7
abbrev pub book_e : List ℕ
book_e = long_bytes 7 1 generator_e 3 2 (1 ∷ 1 ∷ 0 ∷ 0 ∷ 0 ∷ 0 ∷ 0 ∷ 1 ∷ [])

-- SCOPE 8.27: what decode answers for the word w with 1 added at the places i and j
unfoldable pub decodes_damaged : List ℕ → List ℕ → ℕ → ℕ → Shown
decodes_damaged book w i j =
    let bytes = book in
    let n = word_length bytes in
    let r = table n (λ k. sum (at n w k) (indicator (eqb k i || eqb k j))) in
    decodes bytes r

-- SCOPE 3.16: book E is accepted
abbrev pub long_accepted : List (Type 0)
long_accepted =
    -- E: s 7, p 1, g the quotient of x^127 − 1 by 1 + x + x^7, I 3, D 2 and the dual word 11000001 are a book that is accepted
    (checks book_e ≡ numbers (0 ∷ []))
    ∷ []

-- SCOPE 8.27: a message coded, and its word decoded with two wrong symbols
abbrev pub long_cases : List (Type 0)
long_cases =
    -- E: 1000000 is coded as g
    (codes book_e (1 ∷ 0 ∷ 0 ∷ 0 ∷ 0 ∷ 0 ∷ 0 ∷ []) ≡ numbers generator_e)
    -- E: g with 1 added at the places 63 and 126: Mended, 1, 2, g
    ∷ (decodes_damaged book_e generator_e 63 126 ≡ decoded mended 1 2 generator_e)
    ∷ []

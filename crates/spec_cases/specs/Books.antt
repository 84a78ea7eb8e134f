-- SCOPE 8.15: Books A, B and C of the worked cases, as bytes.
-- Assumes nothing.
use Rattle.std.specs.Prelude.{List, [], ◌∷◌, ◌++◌, ℕ, ◌-◌, replicate}
use Rattle.spec_range.specs.Table.{table}
use Rattle.spec_word.specs.Division.{coefficients}

-- SCOPE 3.5: a body of 63 bytes, zero after the symbols that are written
abbrev pub body_of : List ℕ → List ℕ
body_of symbols = table 63 (coefficients symbols)

-- SCOPE 3.2: the book of s, p, g, I, D and one dual word
abbrev pub book_bytes : ℕ → ℕ → List ℕ → ℕ → ℕ → List ℕ → List ℕ
book_bytes s p g I D b = (1 ∷ s ∷ p ∷ 2 ∷ body_of g) ++ (3 ∷ I ∷ D ∷ 4 ∷ body_of b)

-- SCOPE 8.15: book A, with D as given: 1, and 6 and 7 in the cases 8 and 9
abbrev pub book_a : ℕ → List ℕ
book_a D = book_bytes 3 1 (1 ∷ 1 ∷ 0 ∷ 1 ∷ []) 3 D (1 ∷ 1 ∷ 1 ∷ 0 ∷ 1 ∷ 0 ∷ 0 ∷ [])

-- SCOPE 8.16: book B
abbrev pub book_b : List ℕ
book_b = book_bytes 2 2 (1 ∷ 1 ∷ 1 ∷ []) 3 1 (1 ∷ 1 ∷ 0 ∷ [])

-- SCOPE 8.17: book C, with D as given: 2, and 3 in case 14
abbrev pub book_c : ℕ → List ℕ
book_c D = book_bytes 2 2 (2 ∷ 1 ∷ []) 3 D (1 ∷ 3 ∷ 2 ∷ [])

-- SCOPE 8.23: `size` bytes that start as a book of s 3 and p 1 whose byte 3 is as given, and zeros
abbrev pub headed : ℕ → ℕ → List ℕ
headed kind size = 1 ∷ 3 ∷ 1 ∷ kind ∷ replicate (size - 4) 0

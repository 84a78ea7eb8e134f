-- SCOPE 8.19: The program's printed example.
-- Assumes nothing.
use Rattle.std.specs.Prelude.{List, [], ◌∷◌, ◌++◌, ℕ}
use Rattle.spec_cases.specs.Books.{book_a}

-- SCOPE 6.1: book A, after its length, 134
abbrev opening : List ℕ
opening = (134 ∷ 0 ∷ []) ++ book_a 1

-- SCOPE 8.19: book A and the three words
abbrev pub example_input : List ℕ
example_input = opening ++ (1 ∷ 0 ∷ 0 ∷ 0 ∷ 0 ∷ 0 ∷ 0 ∷ []) ++ (1 ∷ 1 ∷ 0 ∷ 0 ∷ 0 ∷ 0 ∷ 0 ∷ []) ++ (1 ∷ 1 ∷ 0 ∷ 1 ∷ 0 ∷ 0 ∷ 0 ∷ [])

-- SCOPE 8.19: the line of 1000000
abbrev first : List ℕ
first = 77 ∷ 32 ∷ 49 ∷ 32 ∷ 49 ∷ 32 ∷ 48 ∷ 48 ∷ 48 ∷ 48 ∷ 48 ∷ 48 ∷ 48 ∷ 48 ∷ 48 ∷ 48 ∷ 48 ∷ 48 ∷ 48 ∷ 48 ∷ 10 ∷ []

-- SCOPE 8.19: the line of 1100000
abbrev second : List ℕ
second = 77 ∷ 32 ∷ 49 ∷ 32 ∷ 49 ∷ 32 ∷ 48 ∷ 49 ∷ 48 ∷ 49 ∷ 48 ∷ 48 ∷ 48 ∷ 49 ∷ 48 ∷ 48 ∷ 48 ∷ 48 ∷ 48 ∷ 48 ∷ 10 ∷ []

-- SCOPE 8.19: the line of 1101000, a code word
abbrev third : List ℕ
third = 67 ∷ 32 ∷ 48 ∷ 32 ∷ 48 ∷ 32 ∷ 48 ∷ 49 ∷ 48 ∷ 49 ∷ 48 ∷ 48 ∷ 48 ∷ 49 ∷ 48 ∷ 48 ∷ 48 ∷ 48 ∷ 48 ∷ 48 ∷ 10 ∷ []

-- SCOPE 8.19: all that is printed
abbrev pub example_output : List ℕ
example_output = first ++ second ++ third

-- SCOPE 6.2: The text of one line of the program, as bytes.
-- Assumes nothing.
use Rattle.std.specs.Prelude.{cond, List, [], ◌∷◌, ◌++◌, ℕ, ◌+◌, ◌/◌, ◌%◌, ltb}
use Rattle.spec_field.specs.Answer.{Answer, done, refused}

-- SCOPE 6.4: the ASCII code of a digit below 16, letters in lower case
unfoldable pub glyph : ℕ → ℕ
glyph d = cond (ltb d 10) (48 + d) (87 + d)

-- SCOPE 6.5: a number below 1000 in decimal, with no leading zero
unfoldable pub decimal_of : ℕ → List ℕ
decimal_of x =
    cond (ltb x 10) ((48 + x) ∷ [])
    (cond (ltb x 100) ((48 + x / 10) ∷ (48 + x % 10) ∷ []) ((48 + x / 100) ∷ (48 + x / 10 % 10) ∷ (48 + x % 10) ∷ []))

-- SCOPE 6.4: two hexadecimal digits a symbol, nothing between
unfoldable pub hex_of : List ℕ → List ℕ
hex_of [] = []
hex_of (x ∷ xs) = glyph (x / 16) ∷ glyph (x % 16) ∷ hex_of xs

-- SCOPE 6.2: the line of a decoded word: letter, rounds, changed and the answer word, a space between each, and a line feed
unfoldable pub answer_line : ℕ → ℕ → ℕ → List ℕ → List ℕ
answer_line letter rounds changed word =
    (letter ∷ []) ++ (32 ∷ []) ++ decimal_of rounds ++ (32 ∷ []) ++ decimal_of changed ++ (32 ∷ []) ++ hex_of word ++ (10 ∷ [])

-- SCOPE 6.6: the line of a refusal: R, a space, the number, a line feed
unfoldable pub refusal_line : ℕ → List ℕ
refusal_line number = (82 ∷ []) ++ (32 ∷ []) ++ decimal_of number ++ (10 ∷ [])

-- SCOPE 6.2: the line of an answer to decode, whose values are changed, rounds and letter, with the answer word
abbrev pub line_of : Answer → List ℕ → List ℕ
line_of (refused number) word = refusal_line number
line_of (done []) word = []
line_of (done (changed ∷ [])) word = []
line_of (done (changed ∷ rounds ∷ [])) word = []
line_of (done (changed ∷ rounds ∷ letter ∷ rest)) word = answer_line letter rounds changed word

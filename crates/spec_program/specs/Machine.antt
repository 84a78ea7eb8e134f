-- SCOPE 6: The program as a machine that takes one byte after another: what it has printed so far, and what the end of input adds, from a state.
-- Assumes nothing.
use Rattle.std.specs.Prelude.{Bool, true, false, cond, List, [], ◌∷◌, ◌++◌, ℕ, zero, suc, ltb, length}
use Rattle.spec_book.specs.Conditions.{refusal}
use Rattle.spec_program.specs.Line.{refusal_line}
use Rattle.spec_program.specs.Output.{piece_line, word_size, word_line, most_words, book_length, opening_text}

-- the length field or the codebook is still coming; the book is accepted, and words come; the run has ended
pub data Phase : Type 0 where
  opening answering ended : Phase

-- where a run stands between two bytes
pub record State : Type 0 where
  -- the length field so far, at most two bytes
  pub field : List ℕ
  -- the codebook so far
  pub book : List ℕ
  -- how many words are answered
  pub count : ℕ
  -- the bytes of a begun word
  pub begun : List ℕ
  pub phase : Phase

-- no byte came
abbrev pub start : State
start = record { field = []; book = []; count = 0; begun = []; phase = opening }

abbrev pub over_in : Phase → Bool
over_in opening = false
over_in answering = false
over_in ended = true

-- the run has ended: no byte changes the state or prints
unfoldable pub is_over : State → Bool
is_over s = over_in s.phase

-- ---- the opening: the length field and the codebook

-- what the field and the book so far tell: one of them is still coming, or the refusal number, 0 where the book is accepted
pub data Verdict : Type 0 where
  coming : Verdict
  judged : ℕ → Verdict

-- SCOPE 6.7, 6.8: a length above 8454 is refused by 1 with no byte of the book read; a book that has its length is judged by its own number
unfoldable pub verdict : List ℕ → List ℕ → Verdict
verdict field book =
    cond (ltb (length field) 2) coming
    (cond (ltb 8454 (book_length field)) (judged 1) (cond (ltb (length book) (book_length field)) coming (judged (refusal book))))

-- SCOPE 6.9: the run goes on with an accepted book, and ends with any other
abbrev pub verdict_phase : Verdict → Phase
verdict_phase coming = opening
verdict_phase (judged zero) = answering
verdict_phase (judged (suc number)) = ended

-- SCOPE 6.6: a refused book prints its line
abbrev pub verdict_text : Verdict → List ℕ
verdict_text coming = []
verdict_text (judged number) = opening_text number

-- s with this field and this book, and the phase that they decide
unfoldable pub opened : State → List ℕ → List ℕ → State
opened s field book = record { field = field; book = book; count = s.count; begun = s.begun; phase = verdict_phase (verdict field book) }

-- the field with one byte more, which joins it while it is short of two
unfoldable pub field_with : State → ℕ → List ℕ
field_with s x = cond (ltb (length s.field) 2) (s.field ++ (x ∷ [])) s.field

-- the book with one byte more, which joins it once the field is whole
unfoldable pub book_with : State → ℕ → List ℕ
book_with s x = cond (ltb (length s.field) 2) s.book (s.book ++ (x ∷ []))

-- ---- the words

-- s with these bytes of a begun word
unfoldable pub beginning : State → List ℕ → State
beginning s word = record { field = s.field; book = s.book; count = s.count; begun = word; phase = answering }

-- SCOPE 6.12: s with `count` words answered and none begun, ended where these are all that are read
unfoldable pub counted : State → ℕ → State
counted s count = record { field = s.field; book = s.book; count = count; begun = []; phase = cond (ltb count most_words) answering ended }

-- these bytes of a word are fewer than n
abbrev pub is_short : State → List ℕ → Bool
is_short s word = ltb (length word) (word_size s.book)

-- s with these bytes of a word: they wait for more, or the word is whole and one more is answered
unfoldable pub worded : State → List ℕ → State
worded s word = cond (is_short s word) (beginning s word) (counted s (suc s.count))

-- SCOPE 6.2: a whole word prints its line
unfoldable pub worded_text : State → List ℕ → List ℕ
worded_text s word = cond (is_short s word) [] (word_line s.book word)

-- ---- one byte more

abbrev pub step_in : Phase → State → ℕ → State
step_in opening s x = opened s (field_with s x) (book_with s x)
step_in answering s x = worded s (s.begun ++ (x ∷ []))
step_in ended s x = s

abbrev pub text_in : Phase → State → ℕ → List ℕ
text_in opening s x = verdict_text (verdict (field_with s x) (book_with s x))
text_in answering s x = worded_text s (s.begun ++ (x ∷ []))
text_in ended s x = []

-- the state after one byte more
unfoldable pub step_byte : State → ℕ → State
step_byte s x = step_in s.phase s x

-- what that byte prints
unfoldable pub byte_text : State → ℕ → List ℕ
byte_text s x = text_in s.phase s x

-- ---- a piece of input, byte by byte, and the end of input

-- the state after a piece
unfoldable pub steps : State → List ℕ → State
steps s [] = s
steps s (x ∷ piece) = steps (step_byte s x) piece

-- what a piece prints
unfoldable pub steps_text : State → List ℕ → List ℕ
steps_text s [] = []
steps_text s (x ∷ piece) = byte_text s x ++ steps_text (step_byte s x) piece

abbrev pub finish_in : Phase → State → List ℕ
finish_in opening s = refusal_line 1
finish_in answering s = piece_line (length s.begun)
finish_in ended s = []

-- SCOPE 6.7, 6.11: what the end of input prints: `R 1` where the opening is not whole, `R 9` where a word is begun
unfoldable pub finish_text : State → List ℕ
finish_text s = finish_in s.phase s

-- the whole text of pieces, stepped one after another and finished
unfoldable pub pieces : State → List (List ℕ) → List ℕ
pieces s [] = finish_text s
pieces s (piece ∷ rest) = steps_text s piece ++ pieces (steps s piece) rest

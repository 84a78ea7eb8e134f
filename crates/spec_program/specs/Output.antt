-- SCOPE 6: The program: the bytes of standard output, from those of standard input.
-- Assumes nothing.
use Rattle.std.specs.Prelude.{◌&&◌, List, [], ◌++◌, ℕ, zero, suc, ◌+◌, ◌*◌, ◌/◌, ◌%◌, leb, length, take, drop, get_or}
use Rattle.spec_field.specs.Answer.{answer}
use Rattle.spec_book.specs.Layout.{book_of}
use Rattle.spec_book.specs.Conditions.{unless, refusal}
use Rattle.spec_operations.specs.Decoding.{matrix_size, decode_refusal, decode_bytes, values}
use Rattle.spec_program.specs.Line.{line_of, refusal_line}

-- ---- the words, under the book that `bytes` hold

-- SCOPE 6.11: the line of what is left after the last whole word: R 9, or nothing where nothing is left
abbrev pub piece_line : ℕ → List ℕ
piece_line zero = []
piece_line (suc size) = refusal_line 9

module _ (bytes : List ℕ) where
  -- SCOPE 6.1: the bytes of a word
  abbrev pub word_size : ℕ
  word_size = (book_of bytes).n

  -- SCOPE 6.2: the line of one word: what decode answers with outputs of the exact sizes, R 11 for a bad symbol (6.10)
  unfoldable pub word_line : List ℕ → List ℕ
  word_line word =
      let x = decode_bytes bytes word in
      line_of (answer (decode_refusal bytes word word_size (matrix_size bytes)) (values x)) x.answer

  -- SCOPE 6.10: the lines of the first `count` words; one that is refused has its line, and the next ones follow
  unfoldable pub lines_of : ℕ → List ℕ → List ℕ
  lines_of zero words = []
  lines_of (suc count) words = word_line (take word_size words) ++ lines_of count (drop word_size words)

  -- SCOPE 6.11: the text of a run of bytes: the lines of its whole words, and that of its last piece
  unfoldable pub text_of : List ℕ → List ℕ
  text_of words = lines_of (length words / word_size) words ++ piece_line (length words % word_size)

-- SCOPE 6.12: the most words of a run, those with a bad symbol among them
abbrev pub most_words : ℕ
most_words = 1000000

-- ---- the opening

-- SCOPE 6.1: what the length field says: two bytes, the low one first
abbrev pub book_length : List ℕ → ℕ
book_length field = get_or field 0 0 + 256 * get_or field 1 0

-- SCOPE 6.1, 6.7, 6.12: the most bytes of input that matter: the length field, the longest codebook and the most words, each of the longest
abbrev pub longest_input : ℕ
longest_input = 2 + 8454 + most_words * 255

-- SCOPE 6.8: 1 where the field or the book is short or the length above 8454 (6.7), else the book's own; `got` bytes of the field say `size`
unfoldable pub opening_refusal : ℕ → ℕ → List ℕ → ℕ
opening_refusal got size book = unless (leb 2 got && leb size 8454 && leb size (length book)) 1 (refusal book)

-- SCOPE 6.6: the line of a refused opening; an accepted one prints nothing
abbrev pub opening_text : ℕ → List ℕ
opening_text zero = []
opening_text (suc number) = refusal_line (suc number)

-- SCOPE 6.9: the text of the words, of which there is none after a refused book; `rest` is what follows the book
abbrev pub words_text : ℕ → List ℕ → List ℕ → List ℕ
words_text zero book rest = text_of book (take (most_words * word_size book) rest)
words_text (suc number) book rest = []

-- SCOPE 6.16: all that is printed, from all that is read
unfoldable pub output : List ℕ → List ℕ
output input =
    let field = take 2 input in
    let size = book_length field in
    let book = take size (drop 2 input) in
    let number = opening_refusal (length field) size book in
    opening_text number ++ words_text number book (drop (2 + size) input)

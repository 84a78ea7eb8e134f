-- The line of a word, from what decode answers and writes, and the sizes of the numbers in it.
-- Assumes nothing.
use mathlib.Core.Path.{◌≡◌, sym, ap, ap₂, ◌∙◌}
use mathlib.Core.List.{List}
use Prim.Native.Nat.{ℕ, zero, suc, ◌≤◌, ◌<◌}
use native.Mathlib.Nat.{le_trans}
use native.Mathlib.Omega.{arith}
use lib.Dec.{leb→le}
use lib.ListN.{length}
use Rattle.spec_range.proofs.Tests.{and_left, and_right}
use Rattle.spec_field.specs.Answer.{Answer, answer, or_else, left}
use Rattle.spec_book.specs.Layout.{field_of, book_of}
use Rattle.spec_book.specs.Conditions.{limits_ok, refusal}
use Rattle.spec_book.proofs.Sound.{sound}
use Rattle.book.specs.declared.Params.{Params}
use Rattle.spec_decoding.specs.Matrix.{matrix}
use Rattle.spec_decoding.specs.Decode.{Result}
use Rattle.spec_decoding.proofs.Matrix.{matrix-length}
use Rattle.spec_decoding.proofs.Outcome as O
use Rattle.spec_operations.specs.Decoding.{matrix_size, decode_input_refusal, decode_refusal, decode_bytes, values, Decodes}
use Rattle.std.specs.Prelude.{Ok, Err}
use Rattle.refusal.specs.declared.Refusal.{Refusal}
use Rattle.refusal.specs.Number.{number_of}
use Rattle.decode_rounds.specs.Kind.{letter_of}
use Rattle.decode.specs.Decoded.{said}
use Rattle.decode.specs.declared.Decoded.{Decoded}
use Rattle.spec_program.specs.Line.{answer_line, refusal_line, line_of}
use Rattle.spec_program.specs.Output.{word_size, word_line}
use Rattle.stream_words.specs.Ready.{Ready}

-- a refusal's line has no answer word, and where nothing is refused the buffer holds it
line_of_lem : (k : ℕ) (x : Result) (word₀ word : List ℕ) (a : Answer) → a ≡ answer k (values x) → word ≡ left k x.answer word₀
    → line_of (answer k (values x)) x.answer ≡ line_of a word
line_of_lem zero x word₀ word a s b = ap₂ line_of (sym s) (sym b)
line_of_lem (suc k) x word₀ word a s b = ap (λ d. line_of d word) (sym s)

-- the rounds of an answer are the definition's
same_rounds : (k : ℕ) (x : Result) (told : Decoded) → said (Ok told) ≡ answer k (values x) → told.rounds ≡ x.rounds
same_rounds zero x told e = cc
same_rounds (suc k) x told e = cc

module _ (bytes : List ℕ) (accepted : refusal bytes ≡ 0) (received : List ℕ) where
  result-sound : O.Sound (field_of bytes) (book_of bytes) received (book_of bytes).most_rounds (decode_bytes bytes received)
  result-sound = O.decode-sound (field_of bytes) (book_of bytes) (matrix (field_of bytes) (book_of bytes)) (matrix-length (field_of bytes)
      (book_of bytes) _) received

  -- "I, most rounds, 1 to 63"
  rounds-high : (decode_bytes bytes received).rounds ≤ 63
  unfolding limits_ok
  rounds-high =
      let t = (sound bytes accepted).limits_ok in
      le_trans result-sound.rounds-le (leb→le (book_of bytes).most_rounds 63 (search (and_left, and_right) depth 5))

module _ (bytes : List ℕ) (c : Params) {t terms word₀ entries₀ : List ℕ} (ready : Ready bytes c t terms word₀ entries₀) (received : List ℕ) where
  abbrev x : Result
  x = decode_bytes bytes received

  abbrev number : ℕ
  number = decode_input_refusal bytes received (length word₀) (length entries₀)

  -- the outputs have the exact sizes, and the book is accepted
  number_is : number ≡ decode_refusal bytes received (word_size bytes) (matrix_size bytes)
  unfolding decode_refusal
  number_is =
      let d = ready.describes in
      let entries_size : length entries₀ ≡ matrix_size bytes = rw (d.p_is, d.n_is) at ready.matrix_size in
      ap₂ (decode_input_refusal bytes received) (ready.answer_size ∙ d.n_is) entries_size
      ∙ ap (λ (k : ℕ). or_else k (decode_input_refusal bytes received (word_size bytes) (matrix_size bytes))) (sym d.accepted)

  word-line : {a : Answer} {word entries : List ℕ} → Decodes number x word₀ entries₀ a word entries → word_line bytes received ≡ line_of a word
  unfolding word_line
  word-line {a} {word} h =
      ap (λ (k : ℕ). line_of (answer k (values x)) x.answer) (sym number_is) ∙ line_of_lem number x word₀ word a h.says h.answer_buffer

  -- an answer
  module _ (told : Decoded) {word entries : List ℕ} (h : Decodes number x word₀ entries₀ (said (Ok told)) word entries) where
    pub line-answered : {letter : ℕ} → letter ≡ letter_of told.kind → word_line bytes received ≡ answer_line letter told.rounds told.changed word
    line-answered e = word-line h ∙ ap (λ (l : ℕ). answer_line l told.rounds told.changed word) (sym e)

    pub rounds-small : told.rounds < 100
    rounds-small = omega (arith, same_rounds number x told h.says, rounds-high bytes ready.describes.accepted received)

  -- a refusal
  module _ (why : Refusal) {word entries : List ℕ} (h : Decodes number x word₀ entries₀ (said (Err why)) word entries) where
    pub line_refused : word_line bytes received ≡ refusal_line (number_of why)
    line_refused = word-line h

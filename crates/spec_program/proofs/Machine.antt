-- Any input, cut into pieces anywhere, makes `output` of the whole.
-- Assumes nothing.
use mathlib.Core.Path.{◌≡◌, refl, sym, ap, ap₂, ◌∙◌}
use mathlib.Core.List.{List, [], ◌∷◌, ◌++◌, append-nil, flatten}
use Prim.Native.Nat.{ℕ, zero, suc, ◌+◌, ◌≤◌, ◌<◌}
use native.Mathlib.Decide.{dec_lt}
use native.Mathlib.Omega.{arith}
use borrow.Author.Tests.{le-leb, lt-leb}
use lib.ListN.{length, take, drop, length-take, take-append-drop}
use lib.Seq.{length-take-le, drop-drop}
use Rattle.spec_book.specs.Conditions.{refusal}
use Rattle.spec_book.proofs.Known.{n_pos}
use Rattle.spec_program.specs.Line.{refusal_line}
use Rattle.spec_program.specs.Output.{word_size, most_words, book_length, opening_refusal, opening_text, words_text, output}
use Rattle.spec_program.specs.Machine.{State, answering, start, coming, judged, Verdict, verdict, verdict_text, opened, counted, steps, steps_text}
use Rattle.spec_program.specs.Machine.{finish_text, pieces}
use Rattle.spec_program.proofs.Joining.{last_text, last_join, last_ended, finish_opening}
use Rattle.spec_program.proofs.Opening.{verdict_short_field, verdict_too_long, verdict_short_book, verdict_whole_book, opened_is, opened_phase}
use Rattle.spec_program.proofs.Opening.{steps_field, steps_text_field, steps-book, steps-text-book}
use Rattle.spec_program.proofs.Answering.{last_words}

-- ---- the opening is judged, and `rest` follows

module _ (field book rest : List ℕ) where
  judged-run : (number : ℕ) → verdict field book ≡ judged number → (number ≡ 0 → 0 < word_size book)
      → verdict_text (verdict field book) ++ last_text (opened start field book) rest ≡ opening_text number ++ words_text number book rest
  unfolding counted
  judged-run zero e pos =
      ap₂ (λ (v : Verdict) (t : State). verdict_text v ++ last_text t rest) e (opened_is start field book e)
      ∙ last_words (record { field = field; book = book; count = 0; begun = []; phase = answering }) (pos refl) most_words 0 rest refl
  judged-run (suc number) e pos =
      ap₂ (λ (v : Verdict) (t : List ℕ). verdict_text v ++ t) e (last_ended (opened start field book) rest (opened_phase start field book e))

-- ---- the field is whole, and `rest` follows

module _ (field rest : List ℕ) (whole : 2 ≤ length field) where
  abbrev size : ℕ
  size = book_length field

  abbrev book : List ℕ
  book = take size rest

  abbrev number : ℕ
  number = opening_refusal (length field) size book

  -- what the machine prints, and what the definition wants
  abbrev printed : List ℕ
  printed = verdict_text (verdict field []) ++ last_text (opened start field []) rest

  abbrev wanted : ℕ → List ℕ
  wanted k = opening_text k ++ words_text k book (drop size rest)

  -- "a length above 8454"
  number-too-long : 8454 < size → number ≡ 1
  unfolding opening_refusal
  number-too-long h = rw (le-leb 2 (length field) whole, lt-leb size 8454 h)

  too_long : 8454 < size → printed ≡ wanted number
  too_long h =
      judged-run field [] rest 1 (verdict_too_long field [] whole h) (λ e. absurd (omega arith)) ∙ ap wanted (sym (number-too-long h))

  module _ (sized : size ≤ 8454) where
    -- a "short .. codebook"
    number-too-short : length rest < size → number ≡ 1
    unfolding opening_refusal
    number-too-short h =
        rw (le-leb 2 (length field) whole, le-leb size 8454 sized, lt-leb size (length book) (omega (arith, length-take size rest)))

    -- bytes of the book
    module _ (some : 0 < size) (a : List ℕ) (fits : length a ≤ size) where
      none_yet : verdict field [] ≡ coming
      none_yet = verdict_short_book field [] whole sized some

      came : steps (opened start field []) a ≡ opened start field a
      unfolding opened
      came = steps-book (opened start field []) a (opened_phase start field [] none_yet) whole sized some (omega arith)

      came-text : steps_text (opened start field []) a ≡ verdict_text (verdict field a)
      unfolding opened
      came-text = steps-text-book (opened start field []) a (opened_phase start field [] none_yet) whole sized some (omega arith)

      came-printed : (b : List ℕ)
          → verdict_text (verdict field []) ++ last_text (opened start field []) (a ++ b) ≡ verdict_text (verdict field a) ++ last_text (opened start field a) b
      came-printed b =
          ap (λ (v : Verdict). verdict_text v ++ last_text (opened start field []) (a ++ b)) none_yet
          ∙ last_join (opened start field []) a b
          ∙ ap₂ (λ (t : List ℕ) (s : State). t ++ last_text s b) came-text came

    too_short : length rest < size → printed ≡ wanted number
    unfolding steps steps_text
    too_short h =
        let e = verdict_short_book field rest whole sized h in
        ap (λ (r : List ℕ). verdict_text (verdict field []) ++ last_text (opened start field []) r) (sym (append-nil rest))
        ∙ came-printed (omega arith) rest (omega arith) []
        ∙ ap₂ (λ (v : Verdict) (t : List ℕ). verdict_text v ++ t) e (finish_opening (opened start field rest) (opened_phase start field rest e))
        ∙ sym (append-nil (refusal_line 1))
        ∙ ap wanted (sym (number-too-short h))

    module _ (enough : size ≤ length rest) where
      -- the book's own number
      number-own : number ≡ refusal book
      unfolding opening_refusal
      number-own =
          rw (le-leb 2 (length field) whole, le-leb size 8454 sized, le-leb size (length book) (omega (arith, length-take-le size rest enough)))

      -- the book comes whole, which may have no byte
      book-came : Dec (0 < size) → printed ≡ verdict_text (verdict field book) ++ last_text (opened start field book) (drop size rest)
      book-came (yes some) =
          ap (λ (r : List ℕ). verdict_text (verdict field []) ++ last_text (opened start field []) r) (sym (take-append-drop size rest))
          ∙ came-printed some book (omega (arith, length-take-le size rest enough)) (drop size rest)
      book-came (no none) =
          let e : 0 ≡ size = omega arith in
          ap (λ (j : ℕ). verdict_text (verdict field (take j rest)) ++ last_text (opened start field (take j rest)) (drop j rest)) e

      long-enough : printed ≡ wanted number
      long-enough =
          book-came (dec_lt 0 size)
          ∙ judged-run field book (drop size rest) (refusal book)
          (verdict_whole_book field book whole sized (omega (arith, length-take-le size rest enough))) (λ e. n_pos book e)
          ∙ ap wanted (sym number-own)

  field-came : printed ≡ wanted number
  field-came = by_size (dec_lt 8454 size) (dec_lt (length rest) size)
    where
      by_size : Dec (8454 < size) → Dec (length rest < size) → printed ≡ wanted number
      by_size (yes h) d = too_long h
      by_size (no h) (yes l) = too_short (omega arith) l
      by_size (no h) (no l) = long-enough (omega arith) (omega arith)

-- ---- the whole input

-- a "missing or short length field"
number_short_field : (got size : ℕ) (book : List ℕ) → got < 2 → opening_refusal got size book ≡ 1
unfolding opening_refusal
number_short_field got size book h = rw (lt-leb 2 got h)

module _ (input : List ℕ) where
  abbrev head : List ℕ
  head = take 2 input

  abbrev first : List ℕ
  first = take (book_length head) (drop 2 input)

  short-input : length input < 2 → last_text start input ≡ output input
  unfolding output
  short-input h =
      let e = verdict_short_field input [] h in
      ap₂ (λ (t : List ℕ) (s : State). t ++ finish_text s)
      (steps_text_field start input refl (omega arith) (omega arith) ∙ ap verdict_text e)
      (steps_field start input refl (omega arith) (omega arith))
      ∙ finish_opening (opened start input []) (opened_phase start input [] e)
      ∙ sym (append-nil (refusal_line 1))
      ∙ ap (λ (k : ℕ). opening_text k ++ words_text k first (drop (2 + book_length head) input))
      (sym (number_short_field (length head) (book_length head) first (omega (arith, length-take 2 input))))

  long-input : 2 ≤ length input → last_text start input ≡ output input
  unfolding output
  long-input h =
      let two = length-take-le 2 input h in
      let number = opening_refusal (length head) (book_length head) first in
      ap (last_text start) (sym (take-append-drop 2 input))
      ∙ last_join start head (drop 2 input)
      ∙ ap₂ (λ (t : List ℕ) (s : State). t ++ last_text s (drop 2 input))
      (steps_text_field start head refl (omega arith) (omega (arith, two)))
      (steps_field start head refl (omega arith) (omega (arith, two)))
      ∙ field-came head (drop 2 input) (omega (arith, two))
      ∙ ap (λ (rest : List ℕ). opening_text number ++ words_text number first rest) (drop-drop (book_length head) 2 input)

  by_length : Dec (length input < 2) → last_text start input ≡ output input
  by_length (yes h) = short-input h
  by_length (no h) = long-input (omega arith)

-- one piece, and the end of input
pub machine_output : (input : List ℕ) → steps_text start input ++ finish_text (steps start input) ≡ output input
machine_output input = by_length input (dec_lt (length input) 2)

-- pieces make what their bytes in one piece make, from any state
pub pieces-joined : (s : State) (ps : List (List ℕ)) → pieces s ps ≡ steps_text s (flatten ps) ++ finish_text (steps s (flatten ps))
unfolding pieces flatten steps steps_text
pieces-joined s [] = refl
pieces-joined s (p ∷ ps) = ap (λ (t : List ℕ). steps_text s p ++ t) (pieces-joined (steps s p) ps) ∙ sym (last_join s p (flatten ps))

-- any split of an input into pieces makes its output
pub split_output : (ps : List (List ℕ)) → pieces start ps ≡ output (flatten ps)
split_output ps = pieces-joined start ps ∙ machine_output (flatten ps)

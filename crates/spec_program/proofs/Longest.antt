-- A run has ended once as many bytes came as can matter, whatever the bytes are.
-- Assumes nothing.
use mathlib.Core.Path.{◌≡◌, refl, sym, ap, subst, ◌∙◌}
use mathlib.Core.List.{List, []}
use Prim.Native.Nat.{ℕ, zero, suc, ◌+◌, ◌*◌, ◌≤◌, ◌<◌}
use native.Mathlib.Decide.{dec_lt}
use native.Mathlib.Omega.{arith}
use lib.Dec.{T}
use lib.ListN.{length, take, drop, length-drop, take-append-drop}
use lib.Seq.{length-take-le}
use Rattle.spec_book.specs.Conditions.{refusal}
use Rattle.spec_book.proofs.Known.{n_pos, n_high}
use Rattle.spec_program.specs.Output.{word_size, most_words, book_length, longest_input}
use Rattle.spec_program.specs.Machine.{State, Phase, opening, answering, ended, over_in, is_over, start, judged, verdict, opened, counted, steps}
use Rattle.spec_program.proofs.Joining.{steps_join, steps_ended}
use Rattle.spec_program.proofs.Opening.{verdict_too_long, verdict_short_book, verdict_whole_book, opened_is, opened_phase, steps_field, steps-book}
use Rattle.spec_program.proofs.Answering.{counted_ended, steps_row}

-- ---- a run that is over

pub ended_over : (s : State) → s.phase ≡ ended → T (is_over s)
unfolding is_over
ended_over s e = subst (λ (p : Phase). T (over_in p)) (sym e) tt

pub over_ended : (s : State) → T (is_over s) → s.phase ≡ ended
unfolding is_over
over_ended s t = by-phase s.phase t
  where
    by-phase : (p : Phase) → T (over_in p) → p ≡ ended
    by-phase opening t = absurd t
    by-phase answering t = absurd t
    by-phase ended t = refl

-- ---- bytes after which the run has ended

abbrev Ends : State → List ℕ → Type 0
Ends s input = (steps s input).phase ≡ ended

-- none are needed where it has
ended_ends : (s : State) (input : List ℕ) → s.phase ≡ ended → Ends s input
ended_ends s input e = ap (λ (t : State). t.phase) (steps_ended s input e) ∙ e

-- the first of them make a state from which the others end it
ends_join : (s : State) (size : ℕ) (input : List ℕ) {s' : State} → steps s (take size input) ≡ s' → Ends s' (drop size input) → Ends s input
ends_join s size input e h =
    ap (λ (l : List ℕ). (steps s l).phase) (sym (take-append-drop size input))
    ∙ ap (λ (t : State). t.phase) (steps_join s (take size input) (drop size input) ∙ ap (λ (t : State). steps t (drop size input)) e)
    ∙ h

-- ---- the words: all that are read, of the longest

words_end : (s : State) → 0 < word_size s.book → word_size s.book ≤ 255 → (rest : List ℕ) → most_words * 255 ≤ length rest → Ends (counted s 0) rest
words_end s pos high rest h =
    let size = most_words * word_size s.book in
    ends_join (counted s 0) size rest (steps_row s pos most_words 0 (take size rest) (omega arith) (length-take-le size rest (omega arith)))
    (ended_ends (counted s most_words) (drop size rest) (counted_ended s most_words (omega arith)))

-- ---- the opening is judged, and the words follow

judged_ends : (field book : List ℕ) (number : ℕ) → verdict field book ≡ judged number → (number ≡ 0 → refusal book ≡ 0) → (rest : List ℕ)
    → most_words * 255 ≤ length rest → Ends (opened start field book) rest
unfolding counted
judged_ends field book zero e own rest h =
    ap (λ (t : State). (steps t rest).phase) (opened_is start field book e)
    ∙ words_end (record { field = field; book = book; count = 0; begun = []; phase = answering }) (n_pos book (own refl)) (n_high book (own refl)) rest h
judged_ends field book (suc number) e own rest h = ended_ends (opened start field book) rest (opened_phase start field book e)

-- ---- the field is whole, and the codebook and the words follow

module _ (field : List ℕ) (whole : 2 ≤ length field) (rest : List ℕ) (long : 8454 + most_words * 255 ≤ length rest) where
  abbrev size : ℕ
  size = book_length field

  module _ (sized : size ≤ 8454) where
    abbrev book : List ℕ
    book = take size rest

    book_size : length book ≡ size
    book_size = length-take-le size rest (omega arith)

    -- the book comes whole, which may have no byte
    book-came : Dec (0 < size) → steps (opened start field []) book ≡ opened start field book
    unfolding opened steps
    book-came (yes some) =
        let waits = opened_phase start field [] (verdict_short_book field [] whole sized some) in
        steps-book (opened start field []) book waits whole sized some (omega (arith, book_size))
    book-came (no none) = let e : size ≡ 0 = omega arith in rw e

    book-ends : Ends (opened start field []) rest
    book-ends =
        ends_join (opened start field []) size rest (book-came (dec_lt 0 size))
        (judged_ends field book (refusal book) (verdict_whole_book field book whole sized (omega (arith, book_size))) (λ e. e) (drop size rest)
        (omega (arith, length-drop size rest)))

  field-ends : Ends (opened start field []) rest
  field-ends = by_size (dec_lt 8454 size)
    where
      by_size : Dec (8454 < size) → Ends (opened start field []) rest
      by_size (yes h) = judged_ends field [] 1 (verdict_too_long field [] whole h) (λ e. absurd (omega arith)) rest (omega arith)
      by_size (no h) = book-ends (omega arith)

-- ---- the whole input

pub longest_over : (input : List ℕ) → longest_input ≤ length input → T (is_over (steps start input))
longest_over input h =
    let two = length-take-le 2 input (omega arith) in
    ended_over (steps start input)
    (ends_join start 2 input (steps_field start (take 2 input) refl (omega arith) (omega (arith, two)))
    (field-ends (take 2 input) (omega (arith, two)) (drop 2 input) (omega (arith, length-drop 2 input))))

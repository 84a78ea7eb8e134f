-- The words of a piece: those that complete a begun word, a row of whole words, and those that begin one.
-- Assumes nothing.
use mathlib.Core.Path.{◌≡◌, sym, ap, ap₂, ◌∙◌}
use mathlib.Core.Bool.{Bool, cond}
use mathlib.Core.List.{List, [], ◌++◌, append-nil}
use Prim.Native.Nat.{ℕ, ◌+◌, ◌-◌, ◌*◌, ◌/◌, ◌≤◌, ◌<◌}
use native.Mathlib.Nat.{le_refl, le_trans, le_of_eq, mul-le-mul, div-mul-le_self, div-add-mod', mod-lt}
use native.Mathlib.Numerals.{add-one}
use native.Mathlib.Omega.{arith}
use borrow.Author.Tests.{lt-ltb, le-ltb}
use lib.ListN.{length, take, drop, length-drop}
use lib.Seq.{length-take-le, take_all}
use Rattle.spec_book.proofs.Known.{n_pos, n_high}
use Rattle.spec_program.specs.Output.{word_size, word_line, lines_of, most_words}
use Rattle.spec_program.specs.Machine as M
use Rattle.spec_program.specs.Machine.{answering, ended, beginning, counted, steps, steps_text}
use Rattle.spec_program.proofs.Joining.{steps_ended, steps_text_ended}
use Rattle.spec_program.proofs.Answering.{counted_answering, counted_ended, steps-begun, steps-text-begun}
use Rattle.spec_program.proofs.Answering.{steps-word, steps-text-word, steps-words, steps-text-words}
use Rattle.book.specs.declared.Params.{Params}
use Rattle.book.specs.Params.{Describes}
use Rattle.decode_rounds.specs.Rounds.{TermsRoom}
use Rattle.stream_text.specs.Printed.{Printed}
use Rattle.stream_text.proofs.Printing.{printed_none, printed_then}
use Rattle.stream_words.proofs.Blocks.{word_low}
use Rattle.stream_serve.specs.declared.Answers.{Answers}
use Rattle.stream_state.specs.Part.{Least, Filled}
use Rattle.stream_state.proofs.Pieces.{steps_split, steps_text_split}
use Rattle.stream_serve.specs.Serving.{serving_state, Going, Served}

pub row_fits : (n : ℕ) (piece : List ℕ) {words more : ℕ} → Least more (length piece / n) words → words * n ≤ length piece
row_fits n piece least = le_trans (mul-le-mul least.right (le_refl n)) (div-mul-le_self (length piece) n)

module _ (bytes : List ℕ) (c : Params) (d : Describes bytes c) (a : Answers) (few : a.count < most_words) (piece : List ℕ) where
  abbrev from : List ℕ → M.State
  from field = serving_state field bytes a

  phase-is : (field : List ℕ) → (from field).phase ≡ answering
  unfolding serving_state
  phase-is field = ap (λ (b : Bool). cond b answering ended) (lt-ltb a.count most_words few)

  pos : 0 < word_size bytes
  pos = n_pos bytes d.accepted

  -- ---- a row of whole words, where none is begun

  module _ (none : a.held ≡ 0) (going : Going c a) {words : ℕ} (least : Least (most_words - a.count) (length piece / c.n) words) where
    abbrev size : ℕ
    size = words * c.n

    row-size : length (take size piece) ≡ words * word_size bytes
    row-size = length-take-le size piece (row_fits c.n piece least) ∙ ap (λ (n : ℕ). words * n) d.n_is

    none-begun : (field : List ℕ) → (from field).begun ≡ []
    unfolding serving_state
    none-begun field = ap (λ (k : ℕ). take k a.begun) none

    row-state : (field : List ℕ) → steps (from field) (take size piece) ≡ counted (from field) (a.count + words)
    unfolding serving_state
    row-state field = steps-words (from field) pos (phase-is field) (none-begun field) few words (take size piece) (omega (arith, least.left)) row-size

    row-text : (field : List ℕ) → steps_text (from field) (take size piece) ≡ lines_of bytes words (take size piece)
    unfolding serving_state
    row-text field = steps-text-words (from field) pos (phase-is field) (none-begun field) few words (take size piece) (omega (arith, least.left)) row-size

    module _ {terms out₀ out : List ℕ} {end : ℕ} (printed : Printed out₀ a.end (lines_of bytes words (take size piece)) out end)
        (end_le : end ≤ a.end + 6 * length (take size piece)) (terms_are : TermsRoom bytes c terms) where
      ends : end ≤ a.end + 6 * (a.held + length piece)
      ends = omega (arith, length-take-le size piece (row_fits c.n piece least), row_fits c.n piece least)

      -- no more words are read
      module _ (full : a.count + words ≡ most_words) where
        over : (field : List ℕ) → (counted (from field) (a.count + words)).phase ≡ ended
        over field = counted_ended (from field) (a.count + words) (le_of_eq (sym full))

        full-state : (field : List ℕ)
            → serving_state field bytes (record { count = a.count + words; begun = a.begun; held = 0; end = end }) ≡ steps (from field) piece
        unfolding serving_state counted
        full-state field =
            sym
            (steps_split (from field) size piece
            ∙ ap (λ (s : M.State). steps s (drop size piece)) (row-state field)
            ∙ steps_ended (counted (from field) (a.count + words)) (drop size piece) (over field))

        full-text : (field : List ℕ) → steps_text (from field) piece ≡ lines_of bytes words (take size piece)
        full-text field =
            steps_text_split (from field) size piece
            ∙ ap₂ (λ (t : List ℕ) (s : M.State). t ++ steps_text s (drop size piece)) (row-text field) (row-state field)
            ∙ ap (λ (t : List ℕ). lines_of bytes words (take size piece) ++ t)
            (steps_text_ended (counted (from field) (a.count + words)) (drop size piece) (over field))
            ∙ append-nil (lines_of bytes words (take size piece))

        pub row-full : Served bytes c a piece out₀ (record { count = a.count + words; begun = a.begun; held = 0; end = end }) terms out
        row-full =
            record {
              state_is = full-state;
              text_is = λ field. rw (full-text field) printed;
              end_le = ends;
              going = record { begun_size = going.begun_size; held_lt = omega (arith, going.held_lt); count_le = le_of_eq full };
              terms_are = terms_are;
            }

      -- what is left begins a word
      module _ (more : a.count + words ≡ most_words → ⊥) {begun : List ℕ} {held : ℕ} (filled : Filled a.begun 0 c.n (drop size piece) begun held) where
        abbrev rest : List ℕ
        rest = drop size piece

        rest-short : length rest < c.n
        rest-short =
            let all = least.reached (omega (arith, least.left)) in
            let row : words * c.n ≡ length piece / c.n * c.n = ap (λ (k : ℕ). k * c.n) all in
            let some : 0 < c.n = omega (arith, d.n_is, pos) in
            let left = mod-lt (length piece) some in
            omega (arith, length-drop size piece, div-add-mod' (length piece) c.n)

        held_all : held ≡ length rest
        held_all = filled.all (omega (arith, filled.joined.within, rest-short))

        rest-held : take held begun ≡ rest
        rest-held =
            let none_before : held ≡ 0 + held = omega arith in
            ap (λ (k : ℕ). take k begun) none_before ∙ filled.joined.holds ∙ take_all held rest (omega (arith, held_all))

        left_lt : a.count + words < most_words
        left_lt = omega (arith, least.left)

        goes_on : (field : List ℕ) → (counted (from field) (a.count + words)).phase ≡ answering
        goes_on field = counted_answering (from field) (a.count + words) left_lt

        short-rest : (field : List ℕ) → length (counted (from field) (a.count + words)).begun + length rest < word_size (counted (from field)
            (a.count + words)).book
        unfolding counted serving_state
        short-rest field = omega (arith, rest-short, d.n_is)

        rest-state : (field : List ℕ)
            → serving_state field bytes (record { count = a.count + words; begun = begun; held = held; end = end }) ≡ steps (from field) piece
        unfolding serving_state counted beginning
        rest-state field =
            ap₂ (λ (w : List ℕ) (b : Bool). record { field = field; book = bytes; count = a.count + words; begun = w; phase = cond b answering ended })
            rest-held (lt-ltb (a.count + words) most_words left_lt)
            ∙ sym
            (steps_split (from field) size piece
            ∙ ap (λ (s : M.State). steps s rest) (row-state field)
            ∙ steps-begun (counted (from field) (a.count + words)) rest (goes_on field) (short-rest field))

        rest-text : (field : List ℕ) → steps_text (from field) piece ≡ lines_of bytes words (take size piece)
        rest-text field =
            steps_text_split (from field) size piece
            ∙ ap₂ (λ (t : List ℕ) (s : M.State). t ++ steps_text s rest) (row-text field) (row-state field)
            ∙ ap (λ (t : List ℕ). lines_of bytes words (take size piece) ++ t)
            (steps-text-begun (counted (from field) (a.count + words)) rest (goes_on field) (short-rest field))
            ∙ append-nil (lines_of bytes words (take size piece))

        pub row-rest : Served bytes c a piece out₀ (record { count = a.count + words; begun = begun; held = held; end = end }) terms out
        row-rest =
            record {
              state_is = rest-state;
              text_is = λ field. rw (rest-text field) printed;
              end_le = ends;
              going =
                  record {
                    begun_size = filled.joined.kept ∙ going.begun_size;
                    held_lt = omega (arith, held_all, rest-short);
                    count_le = omega (arith, left_lt);
                  };
              terms_are = terms_are;
            }

  -- ---- the bytes that join a begun word

  module _ (going : Going c a) {begun : List ℕ} {more : ℕ} (filled : Filled a.begun a.held c.n piece begun more) where
    n-most : c.n ≤ 255
    n-most = omega (arith, d.n_is, n_high bytes d.accepted)

    held-size : length (take a.held a.begun) ≡ a.held
    held-size = length-take-le a.held a.begun (omega (arith, going.held_lt, going.begun_size, n-most))

    more-size : length (take more piece) ≡ more
    more-size = length-take-le more piece filled.joined.within

    -- the word is still short
    module _ (short : a.held + more < c.n) where
      all-taken : more ≡ length piece
      all-taken = filled.all short

      joined-all : take (a.held + more) begun ≡ take a.held a.begun ++ piece
      joined-all = filled.joined.holds ∙ ap (λ (l : List ℕ). take a.held a.begun ++ l) (take_all more piece (omega (arith, all-taken)))

      still-short : (field : List ℕ) → length (from field).begun + length piece < word_size (from field).book
      unfolding serving_state
      still-short field = omega (arith, held-size, all-taken, d.n_is)

      short-state : (field : List ℕ)
          → serving_state field bytes (record { count = a.count; begun = begun; held = a.held + more; end = a.end }) ≡ steps (from field) piece
      unfolding serving_state beginning
      short-state field =
          ap₂ (λ (w : List ℕ) (b : Bool). record { field = field; book = bytes; count = a.count; begun = w; phase = cond b answering ended })
          joined-all (lt-ltb a.count most_words few)
          ∙ sym (steps-begun (from field) piece (phase-is field) (still-short field))

      pub word-short : {terms out : List ℕ} → TermsRoom bytes c terms
          → Served bytes c a piece out (record { count = a.count; begun = begun; held = a.held + more; end = a.end }) terms out
      word-short terms_are =
          record {
            state_is = short-state;
            text_is = λ field. rw (steps-text-begun (from field) piece (phase-is field) (still-short field)) (printed_none _ _);
            end_le = omega arith;
            going = record { begun_size = filled.joined.kept ∙ going.begun_size; held_lt = short; count_le = going.count_le };
            terms_are = terms_are;
          }

    -- it is whole
    module _ (whole : c.n ≤ a.held + more) {out₀ mid : List ℕ} {end : ℕ} (line : Printed out₀ a.end (word_line bytes (take c.n begun)) mid end)
        (end_le : end ≤ a.end + (10 + 2 * c.n)) where
      abbrev pub next : Answers
      next = record { count = a.count + 1; begun = begun; held = 0; end = end }

      exact : a.held + more ≡ c.n
      exact = omega (arith, filled.fits)

      word_is : take c.n begun ≡ take a.held a.begun ++ take more piece
      word_is = ap (λ (k : ℕ). take k begun) (sym exact) ∙ filled.joined.holds

      completes : (field : List ℕ) → length (from field).begun + length (take more piece) ≡ word_size (from field).book
      unfolding serving_state
      completes field = omega (arith, held-size, more-size, exact, d.n_is)

      begun-lt : (field : List ℕ) → length (from field).begun < word_size (from field).book
      unfolding serving_state
      begun-lt field = omega (arith, held-size, going.held_lt, d.n_is)

      word-state : (field : List ℕ) → steps (from field) (take more piece) ≡ serving_state field bytes next
      unfolding serving_state counted
      word-state field =
          steps-word (from field) (take more piece) (phase-is field) (begun-lt field) (completes field)
          ∙ ap (λ (k : ℕ). serving_state field bytes (record { count = k; begun = begun; held = 0; end = end })) (sym (add-one a.count))

      word-text : (field : List ℕ) → steps_text (from field) (take more piece) ≡ word_line bytes (take c.n begun)
      unfolding serving_state
      word-text field =
          steps-text-word (from field) (take more piece) (phase-is field) (begun-lt field) (completes field) ∙ ap (word_line bytes) (sym word_is)

      ends_by : end ≤ a.end + 6 * (a.held + more)
      ends_by = omega (arith, exact, word_low bytes c d)

      pub next-going : Going c next
      next-going =
          record { begun_size = filled.joined.kept ∙ going.begun_size; held_lt = omega (arith, d.n_is, pos); count_le = omega arith }

      -- no more words are read
      module _ (full : a.count + 1 ≡ most_words) where
        done : (field : List ℕ) → (serving_state field bytes next).phase ≡ ended
        unfolding serving_state
        done field = ap (λ (b : Bool). cond b answering ended) (le-ltb (a.count + 1) most_words (le_of_eq (sym full)))

        last-state : (field : List ℕ) → serving_state field bytes next ≡ steps (from field) piece
        last-state field =
            sym
            (steps_split (from field) more piece
            ∙ ap (λ (s : M.State). steps s (drop more piece)) (word-state field)
            ∙ steps_ended (serving_state field bytes next) (drop more piece) (done field))

        last-text : (field : List ℕ) → steps_text (from field) piece ≡ word_line bytes (take c.n begun)
        last-text field =
            steps_text_split (from field) more piece
            ∙ ap₂ (λ (t : List ℕ) (s : M.State). t ++ steps_text s (drop more piece)) (word-text field) (word-state field)
            ∙ ap (λ (t : List ℕ). word_line bytes (take c.n begun) ++ t)
            (steps_text_ended (serving_state field bytes next) (drop more piece) (done field))
            ∙ append-nil (word_line bytes (take c.n begun))

        pub word-last : {terms : List ℕ} → TermsRoom bytes c terms → Served bytes c a piece out₀ next terms mid
        word-last terms_are =
            record {
              state_is = last-state;
              text_is = λ field. rw (last-text field) line;
              end_le = omega (arith, ends_by, filled.joined.within);
              going = next-going;
              terms_are = terms_are;
            }

      -- a row follows
      pub word_row : {r : Answers} {terms out : List ℕ} → Served bytes c next (drop more piece) mid r terms out → Served bytes c a piece out₀ r terms out
      word_row {r} {terms} {out} row =
          record {
            state_is = λ field.
                row.state_is field
                ∙ sym (steps_split (from field) more piece ∙ ap (λ (s : M.State). steps s (drop more piece)) (word-state field));
            text_is = λ field.
                rw (steps_text_split (from field) more piece, word-text field, word-state field) (printed_then line (row.text_is field));
            end_le = omega (arith, ends_by, row.end_le, length-drop more piece, filled.joined.within);
            going = row.going;
            terms_are = row.terms_are;
          }

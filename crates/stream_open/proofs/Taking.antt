-- The state after the bytes of a piece that belong to the opening, and what it satisfies.
-- Assumes nothing.
use mathlib.Core.Path.{◌≡◌, sym, ap, ap₂, subst, ◌∙◌}
use mathlib.Core.List.{List, ◌++◌, append-nil}
use Prim.Native.Nat.{ℕ, ◌+◌, ◌≤◌, ◌<◌}
use native.Mathlib.Decide.{dec_lt}
use native.Mathlib.Omega.{arith}
use lib.ListN.{length, take, drop, length-drop}
use lib.Seq.{length-take-le, take-add}
use Rattle.spec_book.proofs.Known.{n_pos}
use Rattle.spec_program.specs.Machine.{verdict, verdict_text, opened, steps, steps_text}
use Rattle.spec_program.proofs.Opening.{opening_line, refused_phase, opened_is}
use Rattle.book.specs.declared.Params.{Params}
use Rattle.stream_text.specs.Printed.{Printed}
use Rattle.sizes.proofs.Lengths.{blocks_high}
use Rattle.matrix_terms.specs.Terms.{unlisted, weight_in}
use Rattle.decode_rounds.specs.Rounds.{TermsRoom}
use Rattle.stream_state.specs.declared.Phase.{Phase}
use Rattle.stream_state.specs.declared.Phase.TheVariants.{Opening, Answering, Ended}
use Rattle.stream_state.specs.declared.State.{State}
use Rattle.std.specs.Prelude.{Some, None, Ok, Err}
use Rattle.refusal.specs.Number.{number_of}
use Rattle.refusal.proofs.Numbers.{number-not_zero}
use Rattle.stream_state.specs.State.{phase_of, field_came, book_came, state_of, wanted_of, Waiting, Sized, Sound}
use Rattle.stream_state.specs.Part.{Filled}
use Rattle.stream_open.specs.Opening.{Judged, Told, told_text, phase_told, Opens}
use Rattle.stream_open.proofs.Openings.{short_wanted, coming_short, steps-opening, steps-text-opening}

-- nothing is listed yet in a room whose number 0 is 0
none_listed : (bytes : List ℕ) (c : Params) (terms : List ℕ) → length terms ≡ 8384 → weight_in terms ≡ 0 → TermsRoom bytes c terms
none_listed bytes c terms size fresh = record { long = omega (arith, blocks_high c.n); kept = unlisted fresh }

-- ---- `head` bytes of a piece join the field

module _ (s : State) (waiting : Waiting s) (sized : Sized s) {piece field : List ℕ} {head : ℕ} (filled : Filled s.field s.got 2 piece field head) where
  abbrev field' : List ℕ
  field' = take (s.got + head) field

  -- where the field was whole it stays, and before that no byte of the codebook came
  pub came_wanted : s.came ≤ wanted_of field'
  came_wanted = by_size (dec_lt s.got 2)
    where
      by_size : Dec (s.got < 2) → s.came ≤ wanted_of field'
      by_size (yes h) =
          let short = length-take-le s.got s.field (omega arith) in
          omega (arith, waiting.fits, short_wanted (field_came s) (omega arith))
      by_size (no h) =
          let none : head ≡ 0 = omega (arith, filled.fits) in
          let same : field' ≡ field_came s =
          filled.joined.holds ∙ ap (λ (k : ℕ). field_came s ++ take k piece) none ∙ append-nil (field_came s) in
          omega (arith, waiting.fits, ap wanted_of same)

  -- ---- and then `body` bytes join the codebook

  module _ (p : s.phase ≡ Opening) {book : List ℕ} {size body : ℕ} (size_is : size ≡ wanted_of field') (size-le : size ≤ 8454)
      (grown : Filled s.book s.came size (drop head piece) book body) where
    abbrev book' : List ℕ
    book' = take (s.came + body) book

    abbrev taken : List ℕ
    taken = take (head + body) piece

    -- the state with them, in a phase
    abbrev pub s' : Phase → State
    s' phase = record {
      field = field;
      got = s.got + head;
      book = book;
      came = s.came + body;
      count = s.count;
      begun = s.begun;
      held = s.held;
      phase = phase;
    }

    pub taken-within : head + body ≤ length piece
    taken-within = omega (arith, filled.joined.within, grown.joined.within, length-drop head piece)

    rest-size : length (take body (drop head piece)) ≡ body
    rest-size = length-take-le body (drop head piece) grown.joined.within

    head-size : length (take head piece) ≡ head
    head-size = length-take-le head piece filled.joined.within

    field_fits : length (field_came s) + length (take head piece) ≤ 2
    field_fits = omega (arith, head-size, length-take-le s.got s.field (omega arith), filled.fits)

    book-fits : length (book_came s) + length (take body (drop head piece)) ≤ wanted_of (field_came s ++ take head piece)
    book-fits =
        let wants : size ≡ wanted_of (field_came s ++ take head piece) = size_is ∙ ap wanted_of filled.joined.holds in
        omega (arith, rest-size, length-take-le s.came s.book (omega arith), grown.fits)

    after : steps (state_of s) taken ≡ opened (state_of s) field' book'
    unfolding state_of
    after =
        ap (steps (state_of s)) (take-add head body piece)
        ∙ steps-opening (state_of s) (take head piece) (ap phase_of p) waiting.coming field_fits (take body (drop head piece)) book-fits
        ∙ ap₂ (opened (state_of s)) (sym filled.joined.holds) (sym grown.joined.holds)

    after_text : steps_text (state_of s) taken ≡ verdict_text (verdict field' book')
    unfolding state_of
    after_text =
        ap (steps_text (state_of s)) (take-add head body piece)
        ∙ steps-text-opening (state_of s) (take head piece) (ap phase_of p) waiting.coming field_fits (take body (drop head piece)) book-fits
        ∙ ap₂ (λ (f b : List ℕ). verdict_text (verdict f b)) (sym filled.joined.holds) (sym grown.joined.holds)

    -- what is told of them
    pub taken-state : (told : Judged) (t : List ℕ) → Told field' book' told t → state_of (s' (phase_told told)) ≡ steps (state_of s) taken
    unfolding state_of
    taken-state (Ok None) t j = sym (after ∙ opened_is (state_of s) field' book' j)
    taken-state (Ok (Some c)) t j = sym (after ∙ opened_is (state_of s) field' book' j.0)
    taken-state (Err why) t j =
        sym (after ∙ opened_is (state_of s) field' book' j ∙ ap (λ q. record {
          field = field';
          book = book';
          count = s.count;
          begun = (state_of s).begun;
          phase = q;
        }) (refused_phase (number_of why) (number-not_zero why)))

    pub taken-text : (told : Judged) (t : List ℕ) → Told field' book' told t → steps_text (state_of s) taken ≡ told_text told
    taken-text (Ok None) t j = after_text ∙ ap verdict_text j
    taken-text (Ok (Some c)) t j = after_text ∙ ap verdict_text j.0
    taken-text (Err why) t j = after_text ∙ ap verdict_text j ∙ opening_line (number_of why) (number-not_zero why)

    -- all bytes are taken while the opening is still coming
    pub taken-all : (told : Judged) (t : List ℕ) → Told field' book' told t → phase_told told ≡ Opening → head + body ≡ length piece
    taken-all (Ok None) t j e = by_size (dec_lt (s.got + head) 2)
      where
        by_size : Dec (s.got + head < 2) → head + body ≡ length piece
        by_size (yes h) = omega (arith, filled.all h, taken-within)
        by_size (no h) =
            let whole : length field' ≡ s.got + head = length-take-le (s.got + head) field (omega (arith, filled.fits, filled.joined.kept)) in
            let came : length book' ≡ s.came + body =
            length-take-le (s.came + body) book (omega (arith, size-le, grown.fits, grown.joined.kept)) in
            omega (
              arith,
              grown.all (omega (arith, size_is, coming_short field' book' (omega arith) j)),
              length-drop head piece,
              filled.joined.within,
            )
    taken-all (Ok (Some c)) t j e = cc
    taken-all (Err why) t j e = cc

    -- what the state satisfies
    sized' : (phase : Phase) → Sized (s' phase)
    sized' phase =
        record {
          field_size = filled.joined.kept ∙ sized.field_size;
          book_size = grown.joined.kept ∙ sized.book_size;
          begun_size = sized.begun_size;
          got_le = filled.fits;
          came_le = omega (arith, grown.fits);
          held_le = sized.held_le;
        }

    pub taken-sound : (told : Judged) (t terms : List ℕ) → Told field' book' told t → length t ≡ 8192 → length terms ≡ 8384 → weight_in terms ≡ 0
        → Sound (s' (phase_told told)) t terms
    taken-sound (Ok None) t terms j t-size terms_size fresh =
        record {
          sized = sized' Opening;
          table_size = t-size;
          terms_size = terms_size;
          in_phase =
              record {
                coming = j;
                fits = omega (arith, grown.fits, size_is);
                none_counted = waiting.none_counted;
                none_held = waiting.none_held;
              };
        }
    taken-sound (Ok (Some c)) t terms j t-size terms_size fresh =
        record {
          sized = sized' (Answering c);
          table_size = t-size;
          terms_size = terms_size;
          in_phase =
              record {
                describes = j.1;
                table_is = j.2;
                terms_are = none_listed book' c _ terms_size fresh;
                held_lt = omega (arith, waiting.none_held, j.1.n_is, n_pos book' j.1.accepted);
                count_lt = omega (arith, waiting.none_counted);
              };
        }
    taken-sound (Err why) t terms j t-size terms_size fresh =
        record { sized = sized' Ended; table_size = t-size; terms_size = terms_size; in_phase = tt }

    -- the whole
    pub opens : (told : Judged) (t : List ℕ) {terms out₀ out : List ℕ} {end : ℕ} {phase : Phase} → phase ≡ phase_told told → Told field' book' told t
        → Printed out₀ 0 (told_text told) out end → end ≤ 5 → 5 ≤ length out₀ → length t ≡ 8192 → length terms ≡ 8384 → weight_in terms ≡ 0
        → Opens s piece out₀ (record { state = s' phase; at = head + body; end = end }) t terms out
    opens told t {terms} {out₀} {out} {end} {phase} is j printed low room t-size terms_size fresh =
        record {
          within = taken-within;
          steps_are =
              record {
                state_is = ap (λ (q : Phase). state_of (s' q)) is ∙ taken-state told t j;
                text_is = rw (taken-text told t j) printed;
                within = omega (arith, printed.kept);
              };
          end_le = low;
          all = λ e. taken-all told t j (sym is ∙ e);
          sound = subst (λ (q : Phase). Sound (s' q) t terms) (sym is) (taken-sound told t terms j t-size terms_size fresh);
        }

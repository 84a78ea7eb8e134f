-- The bytes of a piece that belong to the length field and the codebook.
-- Assumes nothing.
use mathlib.Core.Path.{◌≡◌, refl, sym, ap, ap₂, ◌∙◌}
use mathlib.Core.List.{List, [], ◌∷◌, ◌++◌, append-nil}
use Prim.Native.Nat.{ℕ, ◌+◌, ◌≤◌, ◌<◌}
use native.Mathlib.Decide.{dec_lt}
use native.Mathlib.Omega.{arith}
use borrow.Author.Tests.{lt-ltb, le-ltb}
use lib.ListN.{length}
use Rattle.spec_program.specs.Output.{book_length}
use Rattle.spec_program.specs.Machine as M
use Rattle.spec_program.specs.Machine.{opening, coming, judged, Verdict, verdict, verdict_text, opened, steps, steps_text}
use Rattle.spec_program.proofs.Joining.{steps_join, steps_text_join}
use Rattle.spec_program.proofs.Opening.{verdict_too_long, verdict_short_book, verdict_whole_book, opened_phase, opened_self}
use Rattle.spec_program.proofs.Opening.{steps_field, steps_text_field, steps-book, steps-text-book}
use Rattle.stream_state.specs.State.{wanted_of}

-- ---- how much of a codebook is read

module _ (field : List ℕ) where
  pub short_wanted : length field < 2 → wanted_of field ≡ 0
  unfolding wanted_of
  short_wanted h = rw (lt-ltb (length field) 2 h)

  -- the length is known, and is not too large
  record Known : Type 0 where
    pub whole : 2 ≤ length field
    pub sized : book_length field ≤ 8454
    pub wanted-is : wanted_of field ≡ book_length field

  wanted-long : 2 ≤ length field → 8454 < book_length field → wanted_of field ≡ 0
  unfolding wanted_of
  wanted-long h l = rw (le-ltb (length field) 2 h, lt-ltb 8454 (book_length field) l)

  wanted-known : 2 ≤ length field → book_length field ≤ 8454 → wanted_of field ≡ book_length field
  unfolding wanted_of
  wanted-known h l = rw (le-ltb (length field) 2 h, le-ltb 8454 (book_length field) l)

  some-wanted : 0 < wanted_of field → Known
  some-wanted h = by_size (dec_lt (length field) 2) (dec_lt 8454 (book_length field))
    where
      by_size : Dec (length field < 2) → Dec (8454 < book_length field) → Known
      by_size (yes l) d = absurd (omega (arith, short_wanted l))
      by_size (no l) (yes g) = absurd (omega (arith, wanted-long (omega arith) g))
      by_size (no l) (no g) = record { whole = omega arith; sized = omega arith; wanted-is = wanted-known (omega arith) (omega arith) }

  -- where the length is known and the codebook is still coming, more of it is read
  pub coming_short : (book : List ℕ) → 2 ≤ length field → verdict field book ≡ coming → length book < wanted_of field
  coming_short book whole e = by_size (dec_lt 8454 (book_length field)) (dec_lt (length book) (book_length field))
    where
      never : {number : ℕ} → verdict field book ≡ judged number → ⊥
      never h = let z : ◌≡◌ {A = ℕ} 0 1 = cc in omega arith

      by_size : Dec (8454 < book_length field) → Dec (length book < book_length field) → length book < wanted_of field
      by_size (yes l) d = absurd (never (verdict_too_long field book whole l))
      by_size (no l) (yes g) = omega (arith, wanted-known whole (omega arith))
      by_size (no l) (no g) = absurd (never (verdict_whole_book field book whole (omega arith) (omega arith)))

-- ---- bytes `a` of the field and then `b` of the codebook

empty : (a : List ℕ) → length a ≤ 0 → a ≡ []
empty [] h = refl
empty (x ∷ a) h = absurd (omega arith)

module _ (m : M.State) (a : List ℕ) (p : m.phase ≡ opening) (waits : verdict m.field m.book ≡ coming) (fits : length m.field + length a ≤ 2) where
  abbrev field : List ℕ
  field = m.field ++ a

  -- a field that is whole takes no byte
  stays : 2 ≤ length m.field → m.field ≡ field
  stays h = sym (append-nil m.field) ∙ ap (λ (l : List ℕ). m.field ++ l) (sym (empty a (omega arith)))

  field-came : steps m a ≡ opened m field m.book
  unfolding steps
  field-came = by_size (dec_lt (length m.field) 2)
    where
      by_size : Dec (length m.field < 2) → steps m a ≡ opened m field m.book
      by_size (yes h) = steps_field m a p h fits
      by_size (no h) =
          ap (steps m) (empty a (omega arith)) ∙ sym (opened_self m p waits) ∙ ap (λ (f : List ℕ). opened m f m.book) (stays (omega arith))

  field-text : steps_text m a ≡ verdict_text (verdict field m.book)
  unfolding steps_text
  field-text = by_size (dec_lt (length m.field) 2)
    where
      by_size : Dec (length m.field < 2) → steps_text m a ≡ verdict_text (verdict field m.book)
      by_size (yes h) = steps_text_field m a p h fits
      by_size (no h) =
          ap (steps_text m) (empty a (omega arith))
          ∙ sym (ap verdict_text waits)
          ∙ ap (λ (f : List ℕ). verdict_text (verdict f m.book)) (stays (omega arith))

  -- the codebook's bytes
  book-came : (b : List ℕ) → length m.book + length b ≤ wanted_of field → steps (opened m field m.book) b ≡ opened m field (m.book ++ b)
  unfolding steps opened
  book-came [] h = ap (opened m field) (sym (append-nil m.book))
  book-came (x ∷ b) h =
      let k = some-wanted field (omega arith) in
      let e = verdict_short_book field m.book k.whole k.sized (omega (arith, k.wanted-is)) in
      steps-book (opened m field m.book) (x ∷ b) (opened_phase m field m.book e) k.whole k.sized (omega (arith, k.wanted-is)) (omega
      (arith, k.wanted-is))

  book-text : (b : List ℕ) → length m.book + length b ≤ wanted_of field
      → verdict_text (verdict field m.book) ++ steps_text (opened m field m.book) b ≡ verdict_text (verdict field (m.book ++ b))
  unfolding steps_text opened
  book-text [] h = append-nil _ ∙ ap (λ (l : List ℕ). verdict_text (verdict field l)) (sym (append-nil m.book))
  book-text (x ∷ b) h =
      let k = some-wanted field (omega arith) in
      let e = verdict_short_book field m.book k.whole k.sized (omega (arith, k.wanted-is)) in
      ap (λ (v : Verdict). verdict_text v ++ steps_text (opened m field m.book) (x ∷ b)) e
      ∙ steps-text-book (opened m field m.book) (x ∷ b) (opened_phase m field m.book e) k.whole k.sized (omega (arith, k.wanted-is))
      (omega (arith, k.wanted-is))

  module _ (b : List ℕ) (room : length m.book + length b ≤ wanted_of field) where
    pub steps-opening : steps m (a ++ b) ≡ opened m field (m.book ++ b)
    steps-opening = steps_join m a b ∙ ap (λ (s : M.State). steps s b) field-came ∙ book-came b room

    pub steps-text-opening : steps_text m (a ++ b) ≡ verdict_text (verdict field (m.book ++ b))
    steps-text-opening =
        steps_text_join m a b ∙ ap₂ (λ (l : List ℕ) (s : M.State). l ++ steps_text s b) field-text field-came ∙ book-text b room

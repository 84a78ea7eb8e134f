-- What the machine does with the bytes of the length field and of the codebook.
-- Assumes nothing.
use mathlib.Core.Path.{◌≡◌, refl, sym, ap, ap₂, ◌∙◌}
use mathlib.Core.List.{List, [], ◌∷◌, ◌++◌}
use Prim.Native.Nat.{ℕ, zero, suc, ◌+◌, ◌≤◌, ◌<◌}
use borrow.Author.Tests.{lt-ltb, le-ltb}
use lib.ListN.{length}
use Rattle.spec_book.specs.Conditions.{refusal}
use Rattle.spec_program.specs.Line.{refusal_line}
use Rattle.spec_program.specs.Output.{book_length, opening_text}
use Rattle.spec_program.specs.Machine.{State, Phase, opening, ended, Verdict, coming, judged, verdict, verdict_phase, verdict_text, opened, field_with}
use Rattle.spec_program.specs.Machine.{book_with, step_in, text_in, step_byte, byte_text, steps, steps_text}
use Rattle.spec_program.proofs.Joining.{steps-part, steps-text-part}

-- ---- what field and book tell

pub verdict_short_field : (field book : List ℕ) → length field < 2 → verdict field book ≡ coming
unfolding verdict
verdict_short_field field book h = rw (lt-ltb (length field) 2 h)

module _ (field book : List ℕ) (whole : 2 ≤ length field) where
  pub verdict_too_long : 8454 < book_length field → verdict field book ≡ judged 1
  unfolding verdict
  verdict_too_long h = rw (le-ltb (length field) 2 whole, lt-ltb 8454 (book_length field) h)

  pub verdict_short_book : book_length field ≤ 8454 → length book < book_length field → verdict field book ≡ coming
  unfolding verdict
  verdict_short_book h l = rw (le-ltb (length field) 2 whole, le-ltb 8454 (book_length field) h, lt-ltb (length book) (book_length field) l)

  pub verdict_whole_book : book_length field ≤ 8454 → book_length field ≤ length book → verdict field book ≡ judged (refusal book)
  unfolding verdict
  verdict_whole_book h l = rw (le-ltb (length field) 2 whole, le-ltb 8454 (book_length field) h, le-ltb (length book) (book_length field) l)

-- a refused book prints its line and ends the run
pub opening_line : (number : ℕ) → (number ≡ 0 → ⊥) → opening_text number ≡ refusal_line number
opening_line zero h = absurd (h refl)
opening_line (suc number) h = refl

pub refused_phase : (number : ℕ) → (number ≡ 0 → ⊥) → verdict_phase (judged number) ≡ ended
refused_phase zero h = absurd (h refl)
refused_phase (suc number) h = refl

-- ---- states whose phase is what field and book tell

pub opened_is : (s : State) (field book : List ℕ) {v : Verdict} → verdict field book ≡ v
    → opened s field book ≡ record { field = field; book = book; count = s.count; begun = s.begun; phase = verdict_phase v }
unfolding opened
opened_is s field book e =
    ap (λ (v : Verdict). record { field = field; book = book; count = s.count; begun = s.begun; phase = verdict_phase v }) e

pub opened_phase : (s : State) (field book : List ℕ) {v : Verdict} → verdict field book ≡ v → (opened s field book).phase ≡ verdict_phase v
opened_phase s field book e = ap (λ (t : State). t.phase) (opened_is s field book e)

-- a state whose opening is still coming is one of them
pub opened_self : (s : State) → s.phase ≡ opening → verdict s.field s.book ≡ coming → opened s s.field s.book ≡ s
opened_self s p e =
    opened_is s s.field s.book e
    ∙ ap (λ (q : Phase). record { field = s.field; book = s.book; count = s.count; begun = s.begun; phase = q }) (sym p)

module _ (s : State) (field book : List ℕ) (e : verdict field book ≡ coming) (x : ℕ) where
  abbrev s₀ : State
  s₀ = opened s field book

  -- a byte more, while one of them is still coming
  opening-step : step_byte s₀ x ≡ opened s (field_with s₀ x) (book_with s₀ x)
  unfolding step_byte opened
  opening-step = ap (λ (v : Verdict). step_in (verdict_phase v) s₀ x) e

  opening-text : byte_text s₀ x ≡ verdict_text (verdict (field_with s₀ x) (book_with s₀ x))
  unfolding byte_text opened
  opening-text = ap (λ (v : Verdict). text_in (verdict_phase v) s₀ x) e

module _ (s : State) (field book : List ℕ) (x : ℕ) where
  -- it joins a short field
  field-joins : length field < 2 → field_with (opened s field book) x ≡ field ++ (x ∷ [])
  unfolding field_with opened
  field-joins h = rw (lt-ltb (length field) 2 h)

  book-waits : length field < 2 → book_with (opened s field book) x ≡ book
  unfolding book_with opened
  book-waits h = rw (lt-ltb (length field) 2 h)

  -- it joins the book once the field is whole
  field-stays : 2 ≤ length field → field_with (opened s field book) x ≡ field
  unfolding field_with opened
  field-stays h = rw (le-ltb (length field) 2 h)

  book-joins : 2 ≤ length field → book_with (opened s field book) x ≡ book ++ (x ∷ [])
  unfolding book_with opened
  book-joins h = rw (le-ltb (length field) 2 h)

-- ---- a piece of the field or of the book: `field part` and `book part` are the two with what came of the one that grows, of `size` bytes

module _ (s : State) (size : ℕ) (field book : List ℕ → List ℕ)
    (waits : (part : List ℕ) → length part < size → verdict (field part) (book part) ≡ coming)
    (field-with : (part : List ℕ) (x : ℕ) → length part < size → field_with (opened s (field part) (book part)) x ≡ field (part ++ (x ∷ [])))
    (book-with : (part : List ℕ) (x : ℕ) → length part < size → book_with (opened s (field part) (book part)) x ≡ book (part ++ (x ∷ []))) where
  abbrev after : List ℕ → State
  after part = opened s (field part) (book part)

  abbrev told : List ℕ → List ℕ
  told part = verdict_text (verdict (field part) (book part))

  joins : (part : List ℕ) (x : ℕ) → length part < size → step_byte (after part) x ≡ after (part ++ (x ∷ []))
  joins part x h = opening-step s (field part) (book part) (waits part h) x ∙ ap₂ (opened s) (field-with part x h) (book-with part x h)

  prints : (part : List ℕ) (x : ℕ) → length part < size → byte_text (after part) x ≡ told (part ++ (x ∷ []))
  prints part x h =
      opening-text s (field part) (book part) (waits part h) x
      ∙ ap₂ (λ (f b : List ℕ). verdict_text (verdict f b)) (field-with part x h) (book-with part x h)

  module _ (part a : List ℕ) (begins : s ≡ after part) (short : length part < size) (fits : length part + length a ≤ size) where
    steps-grown : steps s a ≡ after (part ++ a)
    steps-grown = ap (λ (t : State). steps t a) begins ∙ steps-part size after joins part a fits

    steps-text-grown : steps_text s a ≡ told (part ++ a)
    steps-text-grown =
        ap (λ (t : State). steps_text t a) begins
        ∙ steps-text-part size after joins told prints (λ u h. ap verdict_text (waits u h)) part a short fits

-- ---- a piece of the field

module _ (s : State) (a : List ℕ) (p : s.phase ≡ opening) (short : length s.field < 2) (fits : length s.field + length a ≤ 2) where
  field-waits : (field : List ℕ) → length field < 2 → verdict field s.book ≡ coming
  field-waits field h = verdict_short_field field s.book h

  field-begins : s ≡ opened s s.field s.book
  field-begins = sym (opened_self s p (field-waits s.field short))

  pub steps_field : steps s a ≡ opened s (s.field ++ a) s.book
  steps_field =
      steps-grown s 2 (λ f. f) (λ f. s.book) field-waits (λ f x h. field-joins s f s.book x h) (λ f x h. book-waits s f s.book x h)
      s.field a field-begins short fits

  pub steps_text_field : steps_text s a ≡ verdict_text (verdict (s.field ++ a) s.book)
  steps_text_field =
      steps-text-grown s 2 (λ f. f) (λ f. s.book) field-waits (λ f x h. field-joins s f s.book x h) (λ f x h. book-waits s f s.book x h)
      s.field a field-begins short fits

-- ---- a piece of the book

module _ (s : State) (a : List ℕ) (p : s.phase ≡ opening) (whole : 2 ≤ length s.field) (sized : book_length s.field ≤ 8454) where
  module _ (short : length s.book < book_length s.field) (fits : length s.book + length a ≤ book_length s.field) where
    coming-book : (book : List ℕ) → length book < book_length s.field → verdict s.field book ≡ coming
    coming-book book h = verdict_short_book s.field book whole sized h

    book-begins : s ≡ opened s s.field s.book
    book-begins = sym (opened_self s p (coming-book s.book short))

    pub steps-book : steps s a ≡ opened s s.field (s.book ++ a)
    steps-book =
        steps-grown s (book_length s.field) (λ b. s.field) (λ b. b) coming-book (λ b x h. field-stays s s.field b x whole)
        (λ b x h. book-joins s s.field b x whole) s.book a book-begins short fits

    pub steps-text-book : steps_text s a ≡ verdict_text (verdict s.field (s.book ++ a))
    steps-text-book =
        steps-text-grown s (book_length s.field) (λ b. s.field) (λ b. b) coming-book (λ b x h. field-stays s s.field b x whole)
        (λ b x h. book-joins s s.field b x whole) s.book a book-begins short fits

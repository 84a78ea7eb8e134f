-- What the field and the codebook so far tell, by the array that holds the field.
-- Assumes nothing.
use mathlib.Core.Path.{◌≡◌, sym, ap, ◌∙◌}
use mathlib.Core.List.{List}
use Prim.Native.Nat.{ℕ, ◌≤◌, ◌<◌}
use native.Mathlib.Omega.{arith}
use borrow.Author.Tests.{lt-ltb, le-ltb}
use lib.ListN.{length, take}
use lib.Seq.{length-take-le, take_all}
use Rattle.spec_book.specs.Conditions.{refusal}
use Rattle.spec_program.specs.Output.{book_length}
use Rattle.spec_program.specs.Machine.{coming, judged, verdict}
use Rattle.spec_program.proofs.Opening.{verdict_short_field, verdict_too_long, verdict_short_book, verdict_whole_book}
use Rattle.stream_state.specs.State.{wanted_of}

module _ (field : List ℕ) (got : ℕ) (two : length field ≡ 2) (got_le : got ≤ 2) where
  short-came : got < 2 → length (take got field) < 2
  short-came h = omega (arith, length-take-le got field (omega arith))

  -- a field that is whole
  whole-came : 2 ≤ got → take got field ≡ field
  whole-came h = take_all got field (omega arith)

  -- ---- how much of a codebook is read

  pub wanted_none : got < 2 → wanted_of (take got field) ≡ 0
  unfolding wanted_of
  wanted_none h = rw (lt-ltb (length (take got field)) 2 (short-came h))

  module _ (h : 2 ≤ got) {size : ℕ} (size-is : size ≡ book_length field) where
    pub wanted_too_long : 8454 < size → wanted_of (take got field) ≡ 0
    unfolding wanted_of
    wanted_too_long l = rw (whole-came h, le-ltb (length field) 2 (omega arith), lt-ltb 8454 (book_length field) (omega arith))

    pub wanted_all : size ≤ 8454 → wanted_of (take got field) ≡ size
    unfolding wanted_of
    wanted_all l = rw (whole-came h, le-ltb (length field) 2 (omega arith), le-ltb 8454 (book_length field) (omega arith)) (sym size-is)

  -- ---- what is told

  module _ (book : List ℕ) where
    pub told-short-field : got < 2 → verdict (take got field) book ≡ coming
    told-short-field h = verdict_short_field (take got field) book (short-came h)

    module _ (h : 2 ≤ got) {size : ℕ} (size-is : size ≡ book_length field) where
      pub told-too-long : 8454 < size → verdict (take got field) book ≡ judged 1
      told-too-long l = ap (λ (f : List ℕ). verdict f book) (whole-came h) ∙ verdict_too_long field book (omega arith) (omega arith)

      pub told-short-book : size ≤ 8454 → length book < size → verdict (take got field) book ≡ coming
      told-short-book l b = ap (λ (f : List ℕ). verdict f book) (whole-came h) ∙ verdict_short_book field book (omega arith) (omega arith) (omega arith)

      pub told-whole-book : {number : ℕ} → size ≤ 8454 → size ≤ length book → number ≡ refusal book → verdict (take got field) book ≡ judged number
      told-whole-book l b e =
          ap (λ (f : List ℕ). verdict f book) (whole-came h)
          ∙ verdict_whole_book field book (omega arith) (omega arith) (omega arith)
          ∙ ap judged (sym e)

-- A message and the same written out: code has one number and one word for both; so of two calls, from what each answers and writes.
-- Assumes nothing.
use mathlib.Core.Path.{◌≡◌, refl, sym, ap, ap₂, ◌∙◌}
use mathlib.Core.Bool.{Bool, true, ◌&&◌}
use mathlib.Core.List.{List, []}
use Prim.Native.Nat.{ℕ, zero, suc, ◌≤◌}
use native.Mathlib.Nat.{le_trans}
use lib.Dec.{T, eqb, ltb, lt→ltb}
use lib.ListN.{length, get_or-eq_default}
use Rattle.spec_range.specs.Fold.{all}
use Rattle.spec_range.proofs.Fold.{fold_cong, fold-extend, tests}
use Rattle.spec_range.proofs.Tests.{test_true}
use Rattle.spec_field.specs.Field.{FieldOps}
use Rattle.spec_field.specs.Answer.{Answer, answer, done, refused, or_else}
use Rattle.spec_field.proofs.Laws.{zero_below}
use Rattle.spec_word.specs.Division.{coefficients}
use Rattle.spec_book.specs.Book.{Book, message_length}
use Rattle.spec_book.specs.Layout.{field_of, book_of}
use Rattle.spec_book.specs.Conditions.{unless, refusal, message_fits, input_ok, input_refusal}
use Rattle.spec_book.proofs.Known.{book_laws}
use Rattle.spec_book.proofs.Inputs.{fits_low, fits_high, full_fits}
use Rattle.spec_coding.specs.Coder.{written_out}
use Rattle.spec_coding.proofs.Coder.{written_out_at, written_out_length, encode-written_out}
use Rattle.spec_operations.specs.Wrote.{Wrote}
use Rattle.spec_operations.specs.Coding.{code_input_refusal, code_refusal, coded}
use Rattle.spec_operations.specs.Short.{GivenWrittenOut, SameWord}
use Rattle.spec_operations.proofs.Wrote.{wrote_new}

module _ (bytes f : List ℕ) where
  abbrev F : FieldOps
  F = field_of bytes

  abbrev B : Book
  B = book_of bytes

  abbrev whole : List ℕ
  whole = written_out B f

  module _ (fits : T (message_fits (message_length B) (length f))) where
    short : length f ≤ message_length B
    short = fits_high (message_length B) (length f) fits

    -- the zeros are symbols
    same-symbols : refusal bytes ≡ 0 → input_ok F.q f ≡ input_ok F.q whole
    unfolding input_ok
    same-symbols ok =
        sym (fold-extend ◌&&◌ true tests (length f) (message_length B) short (λ j. ltb (coefficients f j) F.q) zero-symbol)
        ∙ fold_cong ◌&&◌ true (message_length B) (λ j l. ap (λ (x : ℕ). ltb x F.q) (sym (written_out_at B f j)))
        ∙ ap (λ (m : ℕ). all m (λ j. ltb (coefficients whole j) F.q)) (sym (written_out_length B f short))
      where
        zero-symbol : (j : ℕ) → length f ≤ j → ltb (coefficients f j) F.q ≡ true
        zero-symbol j l =
            ap (λ (x : ℕ). ltb x F.q) (get_or-eq_default f 0 l)
            ∙ test_true (ltb 0 F.q) (lt→ltb 0 F.q (zero_below F (book_laws bytes ok)))

    -- both have 1 to k symbols
    same-fit : message_fits (message_length B) (length f) ≡ message_fits (message_length B) (length whole)
    same-fit =
        test_true _ fits
        ∙ sym (test_true _ (full_fits (message_length B) (length whole) (le_trans (fits_low (message_length B) (length f) fits) short) (written_out_length B f short)))

    same_number : (room : ℕ) → code_refusal bytes f room ≡ code_refusal bytes whole room
    unfolding code_refusal code_input_refusal input_refusal
    same_number room = go (refusal bytes) refl
      where
        go : (number : ℕ) → refusal bytes ≡ number → or_else number (code_input_refusal bytes f room) ≡ or_else number (code_input_refusal bytes whole room)
        go zero ok = ap₂ (λ (size symbols : Bool). unless size 9 (unless (eqb room B.n) 10 (unless symbols 11 0))) same-fit (same-symbols ok)
        go (suc number) _ = refl

-- the refusal number in an answer, 0 where there is none
number_in : Answer → ℕ
number_in (refused number) = number
number_in (done values) = 0

made : (number : ℕ) → answer number [] ≡ done [] → number ≡ 0
unfolding number_in
made zero e = refl
made (suc number) e = ap number_in e

module _ {bytes f f' old w old' w' : List ℕ} {room room' : ℕ} {a a' : Answer}
    (h : Wrote (code_refusal bytes f room) (coded bytes f) old a w)
    (h' : Wrote (code_refusal bytes f' room') (coded bytes f') old' a' w') where
  pub same_word : GivenWrittenOut bytes f f' room room' → SameWord a a' w w'
  same_word given =
      record {
        same_answer = h.says ∙ ap (λ (n : ℕ). answer n []) number ∙ sym h'.says;
        same_word = λ d.
            let z : code_refusal bytes f room ≡ 0 = made _ (sym h.says ∙ d) in
            wrote_new z h ∙ sym (encode-written_out (book_of bytes) f (field_of bytes)) ∙ ap (coded bytes) (sym given.written_out)
            ∙ sym (wrote_new (sym number ∙ z) h');
      }
    where
      number : code_refusal bytes f room ≡ code_refusal bytes f' room'
      number = same_number bytes f given.fits room ∙ ap₂ (code_refusal bytes) (sym given.written_out) given.same_room

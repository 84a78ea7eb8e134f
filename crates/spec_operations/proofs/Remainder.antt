-- The refusal number of remainder, and what holds of two calls of it, from what each answers and writes.
-- Assumes nothing.
use mathlib.Core.Path.{◌≡◌, sym, ap, ap₂, ◌∙◌, subst}
use mathlib.Core.List.{List}
use Prim.Native.Nat.{ℕ}
use lib.Dec.{T}
use Rattle.spec_range.proofs.Tests.{eq→eqb}
use Rattle.spec_field.specs.Field.{FieldOps, FieldLaws}
use Rattle.spec_field.specs.Answer.{Answer, or_else}
use Rattle.spec_field.proofs.Refusals.{found_first}
use Rattle.spec_word.specs.Word.{IsWord, at, plus}
use Rattle.spec_word.specs.Division.{divides}
use Rattle.spec_word.specs.CyclicCode.{Generator}
use Rattle.spec_word.proofs.Place.{at-plus}
use Rattle.spec_word.proofs.CyclicCode.{divides_cong}
use Rattle.spec_word.proofs.Unique.{equal_remainders, difference_of_equal, remainder_added, remainder_same, code_remainder, code_of_zero}
use Rattle.spec_book.specs.Book.{Book}
use Rattle.spec_book.specs.Layout.{field_of, book_of}
use Rattle.spec_book.specs.Conditions.{refusal}
use Rattle.spec_book.proofs.Known.{book_laws, book_accepted}
use Rattle.spec_book.proofs.Inputs.{input_accepted, word_input}
use Rattle.spec_operations.specs.Wrote.{Wrote}
use Rattle.spec_operations.specs.Remainder.{remainder_input_refusal, remainder_refusal, remainder_of, GivenTwo, differ_by_code, Sorted}
use Rattle.spec_operations.proofs.Wrote.{goes_on, wrote_new, wrote_done}

-- ---- a whole call, where k was found for the book

module _ (bytes input : List ℕ) (room : ℕ) {k : ℕ} (e : k ≡ refusal bytes) where
  pub remainder_refused : (k ≡ 0 → ⊥) → k ≡ remainder_refusal bytes input room
  unfolding remainder_refusal
  remainder_refused h = found_first k (refusal bytes) _ e h

  pub remainder_goes_on : {new old out : List ℕ} {a : Answer} → k ≡ 0
      → Wrote (remainder_input_refusal bytes input room) new old a out → Wrote (remainder_refusal bytes input room) new old a out
  unfolding remainder_refusal
  remainder_goes_on z h = goes_on e z h

module _ (bytes : List ℕ) where
  abbrev F : FieldOps
  F = field_of bytes

  abbrev B : Book
  B = book_of bytes

  open B use {n, degree, generator}

  remainder-accepted : {w : List ℕ} {room : ℕ} → refusal bytes ≡ 0 → IsWord F n w → room ≡ degree → remainder_refusal bytes w room ≡ 0
  unfolding remainder_refusal remainder_input_refusal
  remainder-accepted ok word size = ap₂ or_else ok (input_accepted (word_input word (eq→eqb size)))

  -- ---- two calls

  module _ {w w' out₀ out out₀' out' : List ℕ} {room room' : ℕ} {a a' : Answer}
      (h : Wrote (remainder_refusal bytes w room) (remainder_of bytes w) out₀ a out)
      (h' : Wrote (remainder_refusal bytes w' room') (remainder_of bytes w') out₀' a' out') where
    pub sorted : GivenTwo bytes w w' room room' → Sorted bytes w w' a a' out out'
    sorted given =
        record {
          first_done = wrote_done z h;
          second_done = wrote_done z' h';
          equal = λ t. writes ∙ equal_remainders F laws n degree generator G (at n w) (at n w') (subst T summed t) ∙ sym writes';
          differ = λ e. subst T (sym summed) (difference_of_equal F laws n degree generator G (at n w) (at n w') (sym writes ∙ e ∙ writes'));
          zero = λ t. writes ∙ code_remainder F laws n degree generator G (at n w) t;
          code = λ e. code_of_zero F laws n degree generator G (at n w) (sym writes ∙ e);
          added = λ v _ t e.
              writes'
              ∙ remainder_same F laws n degree generator G (at n w') (λ j. F.add (at n w j) (at n v j)) (λ j l. ap (λ (x : List ℕ). at n x j) e ∙ at-plus F n w v l)
              ∙ remainder_added F laws n degree generator G (at n w) (at n v) t ∙ sym writes;
        }
      where
        laws : FieldLaws F
        laws = book_laws bytes given.accepted

        G : Generator F n degree generator
        G = (book_accepted bytes given.accepted).generates

        z : remainder_refusal bytes w room ≡ 0
        z = remainder-accepted given.accepted given.word given.size

        z' : remainder_refusal bytes w' room' ≡ 0
        z' = remainder-accepted given.accepted given.word' given.size'

        writes : out ≡ remainder_of bytes w
        writes = wrote_new z h

        writes' : out' ≡ remainder_of bytes w'
        writes' = wrote_new z' h'

        summed : differ_by_code bytes w w' ≡ divides F degree generator n (λ j. F.add (at n w j) (at n w' j))
        summed = divides_cong F laws n degree generator (at n (plus F n w w')) _ (λ j l. at-plus F n w w' l)

-- What opening a book gives to an operation that goes on with it, and the refusal numbers by the parameters that were read off the book.
-- Assumes nothing.
use mathlib.Core.Path.{◌≡◌, sym, ◌∙◌, subst}
use mathlib.Core.Bool.{Bool}
use mathlib.Core.List.{List}
use Prim.Native.Nat.{ℕ, ◌-◌, ◌^◌, ◌≤◌, ◌<◌}
use lib.Dec.{T, eqb, eqb→eq}
use lib.ListN.{length}
use Rattle.std.specs.Prelude.{Result}
use Rattle.std.specs.Result.{IsErrAnd}
use Rattle.std.proofs.lemmas.Result.{err_from_is_err_and}
use Rattle.refusal.specs.declared.Refusal.{Refusal}
use Rattle.refusal.specs.Number.{number_of, said}
use Rattle.refusal.proofs.Numbers.{first_is, number-not_zero}
use Rattle.spec_field.specs.Answer.{or_else}
use Rattle.spec_book.specs.Conditions.{refusal, message_fits, input_refusal}
use Rattle.spec_book.proofs.Inputs.{fits_high, accepted_input}
use Rattle.spec_operations.specs.Wrote.{Wrote}
use Rattle.spec_operations.specs.Coding.{code_input_refusal, read_input_refusal}
use Rattle.spec_operations.specs.Remainder.{remainder_input_refusal}
use Rattle.spec_operations.proofs.Wrote.{wrote_refused}
use Rattle.word_array.specs.Stored.{place}
use Rattle.book.specs.Params.{Tabulated, Describes}
use Rattle.book.specs.Opened.{OpenBook, SomeBook}
use Rattle.book.specs.declared.Params.{Params}

module _ {bytes : List ℕ} {c : Params} {t : List ℕ} (h : Describes bytes c × Tabulated bytes c.p c.n t) where
  pub open_book : OpenBook bytes c t
  open_book = record { describes = h.0; table_is = h.1 }

  pub some_book : SomeBook c t
  some_book = record { bytes = bytes; open_book = open_book }

-- ---- a call that ends with a refusal, which leaves the buffer as it was

module _ {A : Type 0} {new old : List ℕ} (why : Refusal) (r : Result A Refusal) (p : IsErrAnd r (λ y. y ≡ why)) where
  pub ended : {number : ℕ} → number_of why ≡ number → Wrote number new old (said r) old
  ended e = let q = err_from_is_err_and r p in rw (q.1, q.2) (wrote_refused e (number-not_zero why))

  -- the book's, before those of the operation
  pub not_opened : (bytes : List ℕ) (next : ℕ) → number_of why ≡ refusal bytes → Wrote (or_else (refusal bytes) next) new old (said r) old
  not_opened bytes next e = ended (first_is why (refusal bytes) next e)

-- ---- an input that was not refused, and the room for the output

pub record Taken (p : ℕ) (fits : Bool) (input : List ℕ) (room wanted : ℕ) : Type 0 where
  pub size_fits : T fits
  pub room_is : room ≡ wanted
  pub symbol : (j : ℕ) → j < length input → place input j < 2 ^ p

pub taken : {p wanted : ℕ} {fits : Bool} (input : List ℕ) (room : ℕ) {q : ℕ} → q ≡ 2 ^ p → 0 ≡ input_refusal q fits (eqb room wanted) input
    → Taken p fits input room wanted
taken {wanted = wanted} input room hq h =
    let i = accepted_input _ _ _ input (sym h) in
    record {
      size_fits = i.size;
      room_is = eqb→eq room wanted i.sizes;
      symbol = λ j l. subst (λ (q : ℕ). place input j < q) hq (i.symbol j l);
    }

-- an input whose size is exact
pub size_is : {p n : ℕ} {input : List ℕ} {room wanted : ℕ} → Taken p (eqb (length input) n) input room wanted → length input ≡ n
size_is {n = n} {input} i = eqb→eq (length input) n i.size_fits

-- a message, whose size was tested by `fits`
pub size_at_most : {p k : ℕ} {fits : Bool} {f : List ℕ} {room wanted : ℕ} → fits ≡ message_fits k (length f) → Taken p fits f room wanted → length f ≤ k
size_at_most {k = k} {f = f} e i = fits_high k (length f) (subst T e i.size_fits)

-- ---- by the bytes of the open book

module _ {bytes : List ℕ} {c : Params} {t : List ℕ} (b : OpenBook bytes c t) where
  -- the number that was found is the definition's
  module _ (input : List ℕ) (room : ℕ) {number q : ℕ} (hq : q ≡ 2 ^ c.p) where
    pub code-number : {fits : Bool} → fits ≡ message_fits (c.n - c.degree) (length input) → number ≡ input_refusal q fits (eqb room c.n) input
        → number ≡ code_input_refusal bytes input room
    unfolding code_input_refusal
    code-number e h = h ∙ rw (e, hq, b.describes.p_is, b.describes.n_is, b.describes.degree_is)

    pub read_number : number ≡ input_refusal q (eqb (length input) c.n) (eqb room (c.n - c.degree)) input → number ≡ read_input_refusal bytes input room
    unfolding read_input_refusal
    read_number h = h ∙ rw (hq, b.describes.p_is, b.describes.n_is, b.describes.degree_is)

    pub remainder-number : number ≡ input_refusal q (eqb (length input) c.n) (eqb room c.degree) input → number ≡ remainder_input_refusal bytes input room
    unfolding remainder_input_refusal
    remainder-number h = h ∙ rw (hq, b.describes.p_is, b.describes.n_is, b.describes.degree_is)

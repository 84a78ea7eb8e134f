-- What a refusal number of 0 tells of an input, and which inputs have it.
-- Assumes nothing.
use mathlib.Core.Path.{◌≡◌, ◌∙◌, subst}
use mathlib.Core.Bool.{Bool}
use mathlib.Core.List.{List}
use Prim.Native.Nat.{ℕ, ◌≤◌, ◌<◌}
use native.Mathlib.Nat.{le_of_eq}
use native.Mathlib.Omega.{arith}
use lib.Dec.{T, eqb, leb, ltb, leb→le, le→leb, lt→ltb, ltb→lt}
use lib.ListN.{length, get_or}
use Rattle.spec_range.proofs.Tests.{eq→eqb, cond_true, and_left, and_right, and_both}
use Rattle.spec_range.proofs.Table.{all-at, all_of}
use Rattle.spec_field.specs.Field.{FieldOps}
use Rattle.spec_word.specs.Word.{IsWord}
use Rattle.spec_book.specs.Conditions.{words_ok, message_fits, input_ok, input_refusal}
use Rattle.spec_book.proofs.Sound.{passed}

-- ---- the count of words

module _ (words : ℕ) where
  pub words_low : T (words_ok words) → 1 ≤ words
  unfolding words_ok
  words_low t = leb→le 1 words (and_left (leb 1 words) (leb words 16) t)

  pub words_high : T (words_ok words) → words ≤ 16
  unfolding words_ok
  words_high t = leb→le words 16 (and_right (leb 1 words) (leb words 16) t)

-- ---- the size of a message

module _ (k size : ℕ) where
  pub fits_low : T (message_fits k size) → 1 ≤ size
  unfolding message_fits
  fits_low t = leb→le 1 size (and_left (leb 1 size) (leb size k) t)

  pub fits_high : T (message_fits k size) → size ≤ k
  unfolding message_fits
  fits_high t = leb→le size k (and_right (leb 1 size) (leb size k) t)

  -- a full message fits: k is 1 or more
  pub full_fits : 1 ≤ k → size ≡ k → T (message_fits k size)
  unfolding message_fits
  full_fits low e = and_both (leb 1 size) (leb size k) (le→leb 1 size (omega arith)) (le→leb size k (le_of_eq e))

-- ---- an input with its output

pub record AcceptedInput (q : ℕ) (fits exact : Bool) (input : List ℕ) : Type 0 where
  pub size : T fits
  pub sizes : T exact
  pub symbol : (j : ℕ) → j < length input → get_or input j 0 < q

pub accepted_input : (q : ℕ) (fits exact : Bool) (input : List ℕ) → input_refusal q fits exact input ≡ 0 → AcceptedInput q fits exact input
unfolding input_refusal input_ok
accepted_input q fits exact input e =
    let e₁ = passed fits 8 _ e in
    let e₂ = passed exact 9 _ e₁.1 in
    let e₃ = passed (input_ok q input) 10 0 e₂.1 in
    record {
      size = e₁.0;
      sizes = e₂.0;
      symbol = λ j l. ltb→lt (get_or input j 0) q (all-at (length input) (λ j. ltb (get_or input j 0) q) e₃.0 j l);
    }

pub input_accepted : {q : ℕ} {fits exact : Bool} {input : List ℕ} → AcceptedInput q fits exact input → input_refusal q fits exact input ≡ 0
unfolding input_refusal input_ok
input_accepted {q} {fits} {exact} {input} h =
    cond_true fits _ _ h.size ∙ cond_true exact _ _ h.sizes
    ∙ cond_true (input_ok q input) 0 11 (all_of (length input) (λ j. ltb (get_or input j 0) q) (λ j l. lt→ltb (get_or input j 0) q (h.symbol j l)))

-- a word of n symbols as an input
pub word_input : {F : FieldOps} {n : ℕ} {w : List ℕ} {exact : Bool} → IsWord F n w → T exact → AcceptedInput F.q (eqb (length w) n) exact w
word_input h t =
    record {
      size = eq→eqb h.size;
      sizes = t;
      symbol = λ j l. h.symbol j (subst (λ (k : ℕ). j < k) h.size l);
    }

-- Numbers of which each is found once: no two of them are equal; and dual words whose signature is found once.
-- Assumes nothing.
use mathlib.Core.Path.{◌≡◌, sym, ap, ◌∙◌, subst}
use mathlib.Core.Bool.{Bool, true, false, not}
use mathlib.Core.List.{List}
use Prim.Native.Nat.{ℕ, zero, suc, ◌+◌, ◌≤◌, ◌<◌, zero-le}
use native.Mathlib.Nat.{le_refl, le_step, le_of_suc-le-suc, not-suc-le-zero, eq-or-lt_of_le, le_trans, le_of_eq}
use mathlib.Core.Logic.{◌⊎◌, inl, inr}
use native.Mathlib.Omega.{arith}
use borrow.Author.Tests.{ne_eqb}
use mir.Syntax.{w8, w16}
use mir.Val.{bool_byte, Fits}
use mir.Facts.{Fits-widen}
use lib.Dec.{T, eqb, eqb→eq, eqb_refl}
use Rattle.spec_range.specs.Fold.{fold, total, indicator, all}
use Rattle.spec_range.proofs.Tests.{test_true, test_false, true_test, not_of, not_at, not_not, cond_true, eq→eqb}
use Rattle.spec_range.proofs.Table.{all_of}
use Rattle.spec_range.proofs.Count.{part_le, count_one}
use Rattle.spec_field.specs.Symbols.{gf}
use Rattle.spec_field.proofs.Gf.{gf_laws}
use Rattle.spec_word.specs.Alike.{alike}
use Rattle.spec_word.proofs.Alike.{alike-multiple}
use Rattle.word_array.specs.Stored.{place}
use Rattle.word_array.proofs.Counted.{Counted, counted-byte}
use Rattle.book_duals.specs.Duals.{dual_word}
use Rattle.book_duals.proofs.LaneProduct.{tested_part}
use Rattle.book_alike.specs.Signed.{times_of, Signed}
use Rattle.book_alike.specs.Compared.{differ, Comparable}
use Rattle.book_alike.proofs.Words.{dual_word_lem}
use Rattle.word_alike.proofs.Signing.{alike_signature}

-- ---- numbers

-- a count of at most 32 is a number of 16 digits
pub counted_fits : {n : ℕ} {p : ℕ → Bool} {j t : ℕ} → Counted n p j t → j < n → n ≤ 32 → (b : Bool) → Fits w16 (t + bool_byte b)
counted_fits h l k b = Fits-widen {w = w8} tt (counted-byte h l (omega arith) b)

-- n numbers of 1 or more that add up to n are all 1
le_total : (n : ℕ) (f : ℕ → ℕ) → ((i : ℕ) → i < n → 1 ≤ f i) → n ≤ total n f
unfolding fold
le_total zero f h = zero-le
le_total (suc n) f h = omega (arith, le_total n f (λ i l. h i (le_step l)), h n (le_refl (suc n)))

all_one : (n : ℕ) (f : ℕ → ℕ) → ((i : ℕ) → i < n → 1 ≤ f i) → total n f ≡ n → (i : ℕ) → i < n → f i ≡ 1
unfolding fold
all_one zero f h e i l = absurd (not-suc-le-zero l)
all_one (suc n) f h e i l =
    go (eq-or-lt_of_le (le_of_suc-le-suc l)) (all_one n f (λ i l. h i (le_step l)) (omega (arith, low, last)) i)
  where
    low : n ≤ total n f
    low = le_total n f (λ i l. h i (le_step l))

    last : 1 ≤ f n
    last = h n (le_refl (suc n))

    go : (i ≡ n) ⊎ (i < n) → (i < n → f i ≡ 1) → f i ≡ 1
    go (inl p) ih = ap f p ∙ omega (arith, low, last)
    go (inr k) ih = ih k

module _ (s : List ℕ) where
  -- a number is found where it stands
  found : (l : ℕ) → l < 32 → 1 ≤ times_of s (place s l)
  unfolding times_of
  found l b =
      le_trans (le_of_eq (sym (cond_true (eqb (place s l) (place s l)) 1 0 (eqb_refl (place s l)))))
      (part_le 32 (λ m. indicator (eqb (place s m) (place s l))) b)

  -- where each of the first is found once in all
  pub each_once : {count : ℕ} → count ≤ 32 → eqb (total count (λ l. times_of s (place s l))) count ≡ true
      → (l : ℕ) → l < count → times_of s (place s l) ≡ 1
  each_once {count} h t l b =
      all_one count (λ l. times_of s (place s l)) (λ i k. found i (omega arith)) (eqb→eq _ count (true_test _ t)) l b

  -- the others are other numbers
  once-other : (l m : ℕ) → l < 32 → m < l → times_of s (place s l) ≡ 1 → eqb (place s m) (place s l) ≡ false
  unfolding times_of
  once-other l m b c e =
      count_one 32 (λ m. eqb (place s m) (place s l)) e b (eqb_refl (place s l)) m (omega arith) ∙ ne_eqb m l (omega arith)

-- told that a number is found once
pub told_once : {x : ℕ} {r : Bool} → r ≡ not (eqb x 1) → not r ≡ true → x ≡ 1
told_once {x} e t = eqb→eq x 1 (true_test _ (sym (not_not (eqb x 1)) ∙ ap not (sym e) ∙ t))

-- ---- dual words

-- what is known of all holds of the first ones
pub comparable_part : {bytes : List ℕ} {p n m duals : ℕ} → m ≤ duals → Comparable bytes p n duals → Comparable bytes p n m
comparable_part l h = record { tested = tested_part l h.tested; most = omega (arith, h.most); first = λ k b. h.first k (omega arith) }

pub signed_part : {bytes s : List ℕ} {n m duals : ℕ} → m ≤ duals → Signed bytes n duals s → Signed bytes n m s
signed_part l g = record { long = g.long; signed = λ k b. g.signed k (omega arith) }

module _ {bytes s : List ℕ} {p n duals : ℕ} (h : Comparable bytes p n duals) (g : Signed bytes n duals s) where
  -- two signatures that differ
  pub unlike : (l m : ℕ) → l < duals → m < l → eqb (place s m) (place s l) ≡ false → T (not (alike (gf p) n (dual_word n bytes m) (dual_word n bytes l)))
  unlike l m lb mb e =
      not_of (alike (gf p) n (dual_word n bytes m) (dual_word n bytes l)) (λ t.
      let laws = gf_laws p h.tested.sizes.p_low h.tested.sizes.p_high in
      let m-word = dual_word_lem h.tested m (omega arith) in
      let l-word = dual_word_lem h.tested l lb in
      subst T e (eq→eqb (g.signed m (omega arith)
      ∙ alike_signature (gf p) laws n m-word l-word (alike-multiple (gf p) laws n h.tested.sizes.n_low m-word l-word t)
      ∙ sym (g.signed l lb))))

  pub unlike_told : (l m : ℕ) → l < duals → m < l → eqb (place s m) (place s l) ≡ false → false ≡ alike (gf p) n (dual_word n bytes m) (dual_word n bytes l)
  unlike_told l m lb mb e =
      let told = alike (gf p) n (dual_word n bytes m) (dual_word n bytes l) in
      sym (test_false told (not_at told (unlike l m lb mb e)))

  -- a signature that is found once
  pub once_differs : (l : ℕ) → l < duals → times_of s (place s l) ≡ 1 → differ p n bytes l ≡ true
  unfolding differ
  once_differs l b e =
      test_true _ (all_of l (λ m. not (alike (gf p) n (dual_word n bytes m) (dual_word n bytes l)))
      (λ m c. unlike l m b c (once-other s l m (omega (arith, h.most)) c e)))

  -- and all of them
  pub all_once : eqb (total duals (λ l. times_of s (place s l))) duals ≡ true → true ≡ all duals (differ p n bytes)
  all_once t = sym (test_true _ (all_of duals (differ p n bytes) (λ l b. true_test _ (once_differs l b (each_once s h.most t l b)))))

-- where there are no two
pub no_pair : (p n : ℕ) (bytes : List ℕ) {duals : ℕ} → duals < 2 → true ≡ all duals (differ p n bytes)
unfolding differ
no_pair p n bytes {duals} h = sym (test_true _ (all_of duals (differ p n bytes) (λ l b. all_of l _ (λ m c. absurd (omega arith)))))

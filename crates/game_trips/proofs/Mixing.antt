-- Words that are put in the places of a burst, one after another, are mixed in the end.
-- Assumes nothing.
use mathlib.Core.Path.{◌≡◌, refl, sym, ap, ◌∙◌, subst}
use mathlib.Core.List.{List}
use mathlib.Core.Logic.{◌⊎◌, inl, inr}
use Prim.Native.Nat.{ℕ, zero, suc, ◌+◌, ◌*◌, ◌/◌, ◌%◌, ◌≤◌, ◌<◌}
use native.Mathlib.Nat.{eq-or-lt_of_le, le_of_suc-le-suc, lt_irrefl, lt_trans, not-suc-le-zero, mod-lt, mul-zero, zero-lt-suc, div-lt_iff_lt-mul}
use native.Mathlib.Numerals.{add-one}
use native.Mathlib.Omega.{arith}
use lib.Arith.{digits_mod, digits_div}
use lib.ListN.{length, set, length-set}
use lib.Seq.{get_or-set_same, get_or-set_other}
use Rattle.spec_range.proofs.Table.{table_same}
use Rattle.spec_word.specs.Mixed.{mixed}
use Rattle.spec_word.proofs.Mixed.{mixed-unmixed, unmixed-at}
use Rattle.word_array.specs.Stored.{place}
use Rattle.game_trips.specs.Mixing.{Put}

-- below j + 1 is below j, or j
below_more : {i j : ℕ} → i < j + 1 → (i ≡ j) ⊎ (i < j)
below_more {i} {j} l = eq-or-lt_of_le (le_of_suc-le-suc (subst (λ (k : ℕ). i < k) (add-one j) l))

-- ---- one word

module _ {words m : ℕ} where
  pub put_none : {word out : List ℕ} → Put 0 words m word out out
  put_none = record { long = refl; at = λ j l. absurd (not-suc-le-zero l); before_it = λ i j l. refl }

  pub put_more : {n : ℕ} {word old out : List ℕ} {v : ℕ} → m < words → n * words + m < length out → v ≡ place word n → Put n words m word old out
      → Put (n + 1) words m word old (set out (n * words + m) v)
  put_more {n} {word} {old} {out} {v} h l e p =
      record {
        long = length-set out (n * words + m) v ∙ p.long;
        at = λ j b. stored j (below_more b);
        before_it = λ i j b.
            get_or-set_other out (n * words + m) (j * words + i) v 0 (λ q. lt_irrefl m (subst (λ (k : ℕ). k < m) (same_word j i (lt_trans b h) q) b))
            ∙ p.before_it i j b;
      }
    where
      -- the places of two words differ, and so do two places of one
      same_word : (i i' : ℕ) → i' < words → i * words + i' ≡ n * words + m → i' ≡ m
      same_word i i' l q = sym (digits_mod i l) ∙ ap (λ (k : ℕ). k % words) q ∙ digits_mod n h

      same_place : (i : ℕ) → i * words + m ≡ n * words + m → i ≡ n
      same_place i q = sym (digits_div i h) ∙ ap (λ (k : ℕ). k / words) q ∙ digits_div n h

      stored : (j : ℕ) → (j ≡ n) ⊎ (j < n) → place (set out (n * words + m) v) (j * words + m) ≡ place word j
      stored j (inl q) =
          ap (λ (k : ℕ). place (set out (n * words + m) v) (k * words + m)) q ∙ get_or-set_same out (n * words + m) v 0 l ∙ e
          ∙ ap (place word) (sym q)
      stored j (inr b) =
          get_or-set_other out (n * words + m) (j * words + m) v 0 (λ q. lt_irrefl n (subst (λ (k : ℕ). k < n) (same_place j q) b))
          ∙ p.at j b

  pub put_end : {n j : ℕ} {word old out : List ℕ} → j ≡ n → Put j words m word old out → Put n words m word old out
  put_end {word = word} {old} {out} e p = subst (λ (k : ℕ). Put k words m word old out) e p

-- ---- all words

module _ (n words : ℕ) (word : ℕ → List ℕ) where
  -- the first m words stand in their places
  pub record SoFar (m : ℕ) (out : List ℕ) : Type 0 where
    pub at : (i j : ℕ) → i < m → j < n → place out (j * words + i) ≡ place (word i) j

  pub none_yet : {out : List ℕ} → SoFar 0 out
  none_yet = record { at = λ i j l. absurd (not-suc-le-zero l) }

  pub one_more : {m : ℕ} {w out out' : List ℕ} → SoFar m out → w ≡ word m → Put n words m w out out' → SoFar (m + 1) out'
  one_more {m} {out' = out'} s e p = record { at = λ i j b l. go i j (below_more b) l }
    where
      go : (i j : ℕ) → (i ≡ m) ⊎ (i < m) → j < n → place out' (j * words + i) ≡ place (word i) j
      go i j (inl q) l = rw q (p.at j l ∙ ap (λ (x : List ℕ). place x j) e)
      go i j (inr b) l = p.before_it i j b ∙ s.at i j b l

  pub all-mixed : {m : ℕ} {out : List ℕ} → SoFar m out → words ≤ m → length out ≡ n * words → out ≡ mixed n words word
  unfolding mixed
  all-mixed {m} {out} s h e =
      sym (mixed-unmixed n words out e)
      ∙ table_same (n * words) (λ k l.
      let positive = some words l in
      let row : k / words < n = (div-lt_iff_lt-mul positive).1 l in
      unmixed-at n words out (k % words) row ∙ s.at (k % words) (k / words) (omega (arith, mod-lt k positive)) row)
    where
      some : (words : ℕ) {k : ℕ} → k < n * words → 0 < words
      some zero {k} l = absurd (not-suc-le-zero (subst (λ (a : ℕ). k < a) (mul-zero n) l))
      some (suc words) l = zero-lt-suc words

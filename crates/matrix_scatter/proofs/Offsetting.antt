-- The offsets of a word, written twice over.
-- Assumes nothing.
use mathlib.Core.Path.{◌≡◌, refl, sym, ap, ap₂, ◌∙◌}
use mathlib.Core.List.{List}
use Prim.Native.Nat.{ℕ, ◌+◌, ◌-◌, ◌≤◌, ◌<◌}
use native.Mathlib.Nat.{not-suc-le-zero, add_assoc}
use native.Mathlib.Decide.{ℕ_discrete, dec_lt}
use native.Mathlib.Omega.{arith}
use lib.ListN.{length, set, length-set}
use lib.Seq.{get_or-set_same, get_or-set_other}
use Rattle.spec_word.specs.Word.{at}
use Rattle.spec_word.proofs.Place.{at_lt, at_period}
use Rattle.word_array.specs.Stored.{place}
use Rattle.matrix_scatter.specs.Scatter.{Offsets}

-- the offsets of the places below j are written
pub record Doubling (n : ℕ) (starts w out₀ out : List ℕ) (j : ℕ) : Type 0 where
  pub long : length out ≡ length out₀
  pub first : (i : ℕ) → i < j → place out i ≡ place starts (place w i) + i
  pub second : (i : ℕ) → i < j → place out (n + i) ≡ place starts (place w i) + i + n

-- before the first place
pub doubling_none : (n : ℕ) (starts w out : List ℕ) → Doubling n starts w out out 0
doubling_none n starts w out = record { long = refl; first = λ i l. absurd (not-suc-le-zero l); second = λ i l. absurd (not-suc-le-zero l) }

module _ {n : ℕ} {starts w out₀ out : List ℕ} {j : ℕ} (h : Doubling n starts w out₀ out j) where
  -- one more place
  pub doubling_more : n + n ≤ length out₀ → j < n → let x = place starts (place w j) + j in Doubling n starts w out₀ (set (set out j x) (n + j) (x + n)) (j + 1)
  doubling_more small l =
      record {
        long = length-set (set out j x) (n + j) (x + n) ∙ length-set out j x ∙ h.long;
        first = λ i b. get_or-set_other (set out j x) (n + j) i (x + n) 0 (omega arith) ∙ first i (ℕ_discrete i j) b;
        second = λ i b. second i (ℕ_discrete i j) b;
      }
    where
      x : ℕ
      x = place starts (place w j) + j

      first : (i : ℕ) → Dec (i ≡ j) → i < j + 1 → place (set out j x) i ≡ place starts (place w i) + i
      first i (yes e) b = ap (place (set out j x)) e ∙ get_or-set_same out j x 0 (omega (arith, h.long)) ∙ ap (λ (i : ℕ). place starts (place w i) + i) (sym e)
      first i (no e) b = get_or-set_other out j i x 0 e ∙ h.first i (omega arith)

      second : (i : ℕ) → Dec (i ≡ j) → i < j + 1 → place (set (set out j x) (n + j) (x + n)) (n + i) ≡ place starts (place w i) + i + n
      second i (yes e) b =
          ap (λ (i : ℕ). place (set (set out j x) (n + j) (x + n)) (n + i)) e
          ∙ get_or-set_same (set out j x) (n + j) (x + n) 0 (omega (arith, length-set out j x, h.long))
          ∙ ap (λ (i : ℕ). place starts (place w i) + i + n) (sym e)
      second i (no e) b =
          get_or-set_other (set out j x) (n + j) (n + i) (x + n) 0 (omega arith) ∙ get_or-set_other out j (n + i) x 0 (omega arith) ∙ h.second i (omega arith)

  -- after the last
  pub doubling_end : n ≤ j → Offsets n starts w out₀ out
  doubling_end l = record { long = h.long; offset = λ m b. go m b (dec_lt m n) }
    where
      go : (m : ℕ) → m < n + n → Dec (m < n) → place out m ≡ place starts (at n w m) + m
      go m b (yes d) = h.first m (omega arith) ∙ ap (λ (x : ℕ). place starts x + m) (sym (at_lt n w d))
      go m b (no d) =
          let e : m ≡ n + (m - n) = omega arith in
          let f : m ≡ m - n + n = omega arith in
          ap (place out) e ∙ h.second (m - n) (omega arith)
          ∙ add_assoc _ (m - n) n
          ∙ ap₂ (λ (x y : ℕ). place starts x + y) (sym (at_lt n w (omega arith)) ∙ sym (at_period n w (m - n)) ∙ ap (at n w) (sym f)) (sym f)

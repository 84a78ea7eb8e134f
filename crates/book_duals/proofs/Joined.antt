-- Words joined by inclusive or: a place is zero where those of all of them are.
-- Assumes nothing.
use mathlib.Core.Path.{◌≡◌, refl, sym, ap, ap₂, ◌∙◌, subst}
use mathlib.Core.Bool.{true, ◌&&◌}
use mathlib.Core.List.{List}
use Prim.Native.Nat.{ℕ, ◌+◌, ◌*◌, ◌≤◌, ◌<◌}
use native.Mathlib.Omega.{arith}
use lib.Bits.{bit_or, bit_and, or_add_and, and_le_l, and_le_r}
use lib.Dec.{eqb, eqb→eq}
use Rattle.spec_range.specs.Fold.{all}
use Rattle.spec_range.proofs.Tests.{same_test, eq→eqb, and_left, and_right, and_both}
use Rattle.spec_range.proofs.Fold.{fold_cong, fold-parts, fold-swap, tests}
use Rattle.spec_range.proofs.Loop.{fold_none}
use Rattle.spec_word.specs.Division.{all_zero}
use Rattle.word_array.specs.Stored.{place}
use Rattle.word_table.specs.Window.{Window}
use Rattle.word_table.proofs.Window.{window_none, window_join, window_at}
use Rattle.book_duals.specs.Duals.{Zeros}

or_zero : (a b : ℕ) → eqb (bit_or a b) 0 ≡ eqb a 0 && eqb b 0
or_zero a b =
    same_test _ _
    (λ t.
    let z = eqb→eq (bit_or a b) 0 t in
    and_both (eqb a 0) (eqb b 0) (eq→eqb {a = a} {b = 0} (omega (arith, parts))) (eq→eqb {a = b} {b = 0} (omega (arith, parts))))
    (λ t.
    let x = eqb→eq a 0 (and_left (eqb a 0) _ t) in
    let y = eqb→eq b 0 (and_right (eqb a 0) _ t) in
    eq→eqb {a = bit_or a b} {b = 0} (omega (arith, parts)))
  where
    parts : (bit_or a b + bit_and a b ≡ a + b) × (bit_and a b ≤ a) × (bit_and a b ≤ b)
    parts = (or_add_and a b, and_le_l a b, and_le_r a b)

-- ---- blocks of two words joined

-- b blocks of `word` are joined to those of left₀
pub record Joining (blocks : ℕ) (word left₀ : List ℕ) (b : ℕ) (left : List ℕ) : Type 0 where
  pub within : b ≤ blocks
  pub window : Window 0 (64 * b) (λ j. bit_or (place left₀ j) (place word j)) left₀ left

pub joining_none : (blocks : ℕ) (word left : List ℕ) → Joining blocks word left 0 left
joining_none blocks word left = record { within = omega arith; window = window_none _ _ _ }

module _ {blocks b : ℕ} {word left₀ left : List ℕ} (h : Joining blocks word left₀ b left) where
  pub joining_more : {left' : List ℕ} → b < blocks → Window (64 * b) 64 (λ j. bit_or (place left (64 * b + j)) (place word (64 * b + j))) left left'
      → Joining blocks word left₀ (b + 1) left'
  joining_more l w =
      record {
        within = omega arith;
        window = window_join (omega arith) (omega arith) (λ k d. refl)
            (λ k d. ap (λ (x : ℕ). bit_or x (place word (64 * b + k))) (h.window.high (64 * b + k) (omega arith))) h.window w;
      }

  pub joining_end : blocks ≤ b → Window 0 (64 * blocks) (λ j. bit_or (place left₀ j) (place word j)) left₀ left
  joining_end l = subst (λ (b : ℕ). Window 0 (64 * b) (λ j. bit_or (place left₀ j) (place word j)) left₀ left) (omega (arith, h.within)) h.window

-- ---- all words

-- left joins words whose values are f 0, .., f (l - 1)
pub record Joined (n : ℕ) (f : ℕ → ℕ → ℕ) (l : ℕ) (left : List ℕ) : Type 0 where
  pub zeros : (j : ℕ) → j < n → eqb (place left j) 0 ≡ all l (λ l. eqb (f l j) 0)

-- before the first word
pub joined_none : (n : ℕ) (f : ℕ → ℕ → ℕ) (left : List ℕ) → ((j : ℕ) → j < n → place left j ≡ 0) → Joined n f 0 left
joined_none n f left z = record { zeros = λ j d. ap (λ (x : ℕ). eqb x 0) (z j d) ∙ sym (fold_none ◌&&◌ true _) }

module _ {n : ℕ} {f : ℕ → ℕ → ℕ} {l : ℕ} {left : List ℕ} (h : Joined n f l left) where
  -- and a word that is zero where f l, .., f (l + k - 1) are
  pub joined_more : {span k m : ℕ} {word left' : List ℕ} → n ≤ span → m ≡ l + k → Zeros n f l k word
      → Window 0 span (λ j. bit_or (place left j) (place word j)) left left' → Joined n f m left'
  joined_more {k = k} {word = word} {left'} fits e z w =
      subst (λ (m : ℕ). Joined n f m left') (sym e) record {
        zeros = λ j d.
            ap (λ (x : ℕ). eqb x 0) (window_at w j (omega arith)) ∙ or_zero (place left j) (place word j) ∙ ap₂ ◌&&◌ (h.zeros j d) (z.zeros j d)
            ∙ sym (fold-parts ◌&&◌ true tests l k (λ l. eqb (f l j) 0));
      }

  -- where all places are zero, so are all words
  pub joined_end : {m : ℕ} → l ≡ m → all_zero n left ≡ all m (λ l. all n (λ j. eqb (f l j) 0))
  unfolding all_zero
  joined_end e =
      fold_cong ◌&&◌ true n (λ j d. h.zeros j d ∙ ap (λ (m : ℕ). all m (λ l. eqb (f l j) 0)) e)
      ∙ fold-swap ◌&&◌ true tests n _ (λ j l. eqb (f l j) 0)

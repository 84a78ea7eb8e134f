-- The remainder by g is linear, and multiplying by x is one step of the division. So the words that g divides are closed under sums, multiples and turns,
-- and a sequence that g annihilates sees of a word only its remainder.
-- Assumes nothing.
use mathlib.Core.Path.{◌≡◌, refl, sym, ap, ap₂, ◌∙◌, fun_ext}
use mathlib.Core.Bool.{Bool, true, false, cond, ◌||◌}
use Prim.Native.Nat.{ℕ, zero, suc, pred, ◌+◌, ◌<◌, suc-le-suc}
use native.Mathlib.Nat.{le_trans, le_of_suc-le, not-suc-le-zero, zero-lt-suc}
use native.Mathlib.Omega.{arith}
use lib.Dec.{T, eqb, eqb→eq}
use borrow.Author.Tests.{eq-eqb, ne_eqb}
use Rattle.spec_range.specs.Fold.{fold}
use Rattle.spec_field.specs.Field.{FieldOps, FieldLaws}
use Rattle.spec_word.specs.Word.{sum}
use Rattle.spec_word.specs.Division.{before, coefficients, all_zero, reduce, remainder, divides}
use Rattle.spec_word.specs.CyclicCode.{unity}
use Rattle.spec_range.proofs.Tests.{eq→eqb}
use Rattle.spec_range.proofs.Fold.{fold_cong, fold-op, fold_head, fold-unit, interchange}
use Rattle.spec_range.proofs.Table.{table_at, all-at, all_of}
use Rattle.spec_field.proofs.Laws as L
use Rattle.spec_word.proofs.Sums.{Symbols, field_sums, mul-sum}

-- ---- x·R + a

before_top : (d a : ℕ) (R : ℕ → ℕ) → 0 < d → before a R d ≡ R (pred d)
unfolding before
before_top zero a R h = absurd (not-suc-le-zero h)
before_top (suc e) a R h = refl

before_cong : (a : ℕ) (R S : ℕ → ℕ) (d : ℕ) → ((i : ℕ) → i < d → R i ≡ S i) → (i : ℕ) → i < d → before a R i ≡ before a S i
unfolding before
before_cong a R S d h zero l = refl
before_cong a R S d h (suc i) l = h i (le_of_suc-le l)

-- the polynomial 1
abbrev pub one : ℕ → ℕ
one = before 1 (λ i. 0)

-- ---- x^n - 1

unity-first : (n : ℕ) → unity n 0 ≡ 1
unfolding unity
unity-first n = refl

unity_last : (n : ℕ) → unity n n ≡ 1
unfolding unity
unity_last n = ap (λ (b : Bool). cond (eqb n 0 || b) 1 0) (eq-eqb n n refl) ∙ either (eqb n 0)
  where
    either : (b : Bool) → ◌≡◌ {A = ℕ} (cond (b || true) 1 0) 1
    either true = refl
    either false = refl

unity_inside : (n j : ℕ) → suc j < n → unity n (suc j) ≡ 0
unfolding unity
unity_inside n j l =
    ap₂ (λ (a b : Bool). cond (a || b) 1 0) (ne_eqb (suc j) 0 (omega arith)) (ne_eqb (suc j) n (omega arith))

pub unity_le : (n j : ℕ) → unity n j < 2
unfolding unity
unity_le n j = go (eqb j 0 || eqb j n)
  where
    go : (b : Bool) → cond b 1 0 < 2
    go true = omega arith
    go false = omega arith

module _ (F : FieldOps) (d : ℕ) (g : ℕ → ℕ) where
  -- the remainder, read as a polynomial
  unfoldable pub remainder_at : ℕ → (ℕ → ℕ) → ℕ → ℕ
  remainder_at zero w = λ i. 0
  remainder_at (suc k) w = reduce F d g (remainder_at k (λ j. w (suc j))) (w 0)

  -- g divides the polynomial of k coefficients
  abbrev pub Divided : ℕ → (ℕ → ℕ) → Type 0
  Divided k w = (i : ℕ) → i < d → remainder_at k w i ≡ 0

  -- the remainder of x^k
  pub power : ℕ → ℕ → ℕ
  power zero = one
  power (suc k) = reduce F d g (power k) 0

  module _ (laws : FieldLaws F) where
    open F use {q, add as ◌⊕◌, mul as ◌⊗◌}
    open laws use {one_below, add_below, add_comm, add_assoc, add_zero, add_self, mul_below, mul_comm, mul_assoc, mul_add, mul_zero, mul_one}

    infixl 60 ◌⊕◌
    infixl 70 ◌⊗◌
    pub before-below : (a : ℕ) (R : ℕ → ℕ) → a < q → Symbols F R → Symbols F (before a R)
    unfolding before
    before-below a R ha hR zero = ha
    before-below a R ha hR (suc i) = hR i

    before-add : (a b : ℕ) (R S : ℕ → ℕ) (i : ℕ) → before (a ⊕ b) (λ k. R k ⊕ S k) i ≡ before a R i ⊕ before b S i
    unfolding before
    before-add a b R S zero = refl
    before-add a b R S (suc i) = refl

    before-scale : (c a : ℕ) (R : ℕ → ℕ) (i : ℕ) → before (c ⊗ a) (λ k. c ⊗ R k) i ≡ c ⊗ before a R i
    unfolding before
    before-scale c a R zero = refl
    before-scale c a R (suc i) = refl

    before-zero : (i : ℕ) → before 0 (λ k. 0) i ≡ 0
    unfolding before
    before-zero zero = refl
    before-zero (suc i) = refl

    -- ---- one step of the division is linear

    reduce-below : (a : ℕ) (R : ℕ → ℕ) → a < q → Symbols F R → Symbols F (reduce F d g R a)
    unfolding reduce
    reduce-below a R ha hR i = add_below (before a R i) (R (pred d) ⊗ g i) (before-below a R ha hR i) (mul_below (R (pred d)) (g i))

    pub reduce-cong : (a : ℕ) (R S : ℕ → ℕ) → ((i : ℕ) → i < d → R i ≡ S i) → (i : ℕ) → i < d → reduce F d g R a i ≡ reduce F d g S a i
    unfolding reduce
    reduce-cong a R S h i l = ap₂ ◌⊕◌ (before_cong a R S d h i l) (ap (◌⊗ g i) (h (pred d) (omega arith)))

    reduce-add : (a b : ℕ) (R S : ℕ → ℕ) (i : ℕ) → reduce F d g (λ k. R k ⊕ S k) (a ⊕ b) i ≡ reduce F d g R a i ⊕ reduce F d g S b i
    unfolding reduce
    reduce-add a b R S i =
        ap₂ ◌⊕◌ (before-add a b R S i) (L.add-mul F laws (R (pred d)) (S (pred d)) (g i))
        ∙ interchange ◌⊕◌ 0 (field_sums F laws) (before a R i) (before b S i) (R (pred d) ⊗ g i) (S (pred d) ⊗ g i)

    reduce-scale : (c a : ℕ) (R : ℕ → ℕ) (i : ℕ) → reduce F d g (λ k. c ⊗ R k) (c ⊗ a) i ≡ c ⊗ reduce F d g R a i
    unfolding reduce
    reduce-scale c a R i =
        ap₂ ◌⊕◌ (before-scale c a R i) (mul_assoc c (R (pred d)) (g i)) ∙ sym (mul_add c (before a R i) (R (pred d) ⊗ g i))

    reduce-zero : (i : ℕ) → reduce F d g (λ k. 0) 0 i ≡ 0
    unfolding reduce
    reduce-zero i = ap₂ ◌⊕◌ (before-zero i) (L.zero_mul F laws (g i)) ∙ add_zero 0

    -- the constant term apart
    reduce-constant : (a : ℕ) (R : ℕ → ℕ) (i : ℕ) → reduce F d g R a i ≡ reduce F d g R 0 i ⊕ before a (λ k. 0) i
    unfolding reduce before
    reduce-constant a R zero = add_comm a (R (pred d) ⊗ g 0) ∙ ap (◌⊕ a) (sym (L.zero_add F laws (R (pred d) ⊗ g 0)))
    reduce-constant a R (suc i) = sym (add_zero (R i ⊕ R (pred d) ⊗ g (suc i)))

    -- x·(R + c·S) + a
    reduce-axpy : (c a : ℕ) (R S : ℕ → ℕ) (i : ℕ) → reduce F d g (λ k. R k ⊕ c ⊗ S k) a i ≡ reduce F d g R a i ⊕ c ⊗ reduce F d g S 0 i
    reduce-axpy c a R S i =
        ap (λ (x : ℕ). reduce F d g (λ k. R k ⊕ c ⊗ S k) x i) (sym (add_zero a) ∙ ap (a ⊕◌) (sym (mul_zero c)))
        ∙ reduce-add a (c ⊗ 0) R (λ k. c ⊗ S k) i
        ∙ ap (reduce F d g R a i ⊕◌) (reduce-scale c 0 S i)

    -- ---- the remainder, read as a polynomial

    pub remainder-at : (k : ℕ) (w : ℕ → ℕ) (i : ℕ) → i < d → coefficients (remainder F d g k w) i ≡ remainder_at k w i
    unfolding remainder remainder_at
    remainder-at zero w i l = table_at d (λ i. 0) l
    remainder-at (suc k) w i l =
        table_at d (reduce F d g (coefficients (remainder F d g k (λ j. w (suc j)))) (w 0)) l
        ∙ reduce-cong (w 0) (coefficients (remainder F d g k (λ j. w (suc j)))) (remainder_at k (λ j. w (suc j))) (remainder-at k (λ j. w (suc j))) i l

    pub remainder-below : (k : ℕ) (w : ℕ → ℕ) → Symbols F w → Symbols F (remainder_at k w)
    unfolding remainder_at
    remainder-below zero w h i = L.zero_below F laws
    remainder-below (suc k) w h i = reduce-below (w 0) (remainder_at k (λ j. w (suc j))) (h 0) (remainder-below k (λ j. w (suc j)) (λ j. h (suc j))) i

    pub remainder-add : (k : ℕ) (w v : ℕ → ℕ) (i : ℕ) → remainder_at k (λ j. w j ⊕ v j) i ≡ remainder_at k w i ⊕ remainder_at k v i
    unfolding remainder_at
    remainder-add zero w v i = sym (add_zero 0)
    remainder-add (suc k) w v i =
        ap (λ (R : ℕ → ℕ). reduce F d g R (w 0 ⊕ v 0) i) (fun_ext (remainder-add k (λ j. w (suc j)) (λ j. v (suc j))))
        ∙ reduce-add (w 0) (v 0) (remainder_at k (λ j. w (suc j))) (remainder_at k (λ j. v (suc j))) i

    pub remainder-scale : (c k : ℕ) (w : ℕ → ℕ) (i : ℕ) → remainder_at k (λ j. c ⊗ w j) i ≡ c ⊗ remainder_at k w i
    unfolding remainder_at
    remainder-scale c zero w i = sym (mul_zero c)
    remainder-scale c (suc k) w i =
        ap (λ (R : ℕ → ℕ). reduce F d g R (c ⊗ w 0) i) (fun_ext (remainder-scale c k (λ j. w (suc j))))
        ∙ reduce-scale c (w 0) (remainder_at k (λ j. w (suc j))) i

    -- it goes by the coefficients that it is of
    pub remainder-cong : (k : ℕ) (w v : ℕ → ℕ) → ((j : ℕ) → j < k → w j ≡ v j) → (i : ℕ) → remainder_at k w i ≡ remainder_at k v i
    unfolding remainder_at
    remainder-cong zero w v h i = refl
    remainder-cong (suc k) w v h i =
        ap₂ (λ (R : ℕ → ℕ) (a : ℕ). reduce F d g R a i)
        (fun_ext (remainder-cong k (λ j. w (suc j)) (λ j. v (suc j)) (λ j l. h (suc j) (suc-le-suc l)))) (h 0 (zero-lt-suc k))

    pub remainder-zero : (k i : ℕ) → remainder_at k (λ j. 0) i ≡ 0
    unfolding remainder_at
    remainder-zero zero i = refl
    remainder-zero (suc k) i = ap (λ (R : ℕ → ℕ). reduce F d g R 0 i) (fun_ext (remainder-zero k)) ∙ reduce-zero i

    -- ---- the powers of x

    power_below : (k : ℕ) → Symbols F (power k)
    unfolding power
    power_below zero = before-below 1 (λ i. 0) one_below (λ i. L.zero_below F laws)
    power_below (suc k) = reduce-below 0 (power k) (L.zero_below F laws) (power_below k)

    one-scale : (a : ℕ) → a < q → (i : ℕ) → a ⊗ one i ≡ before a (λ k. 0) i
    unfolding before
    one-scale a ha zero = mul_one a ha
    one-scale a ha (suc i) = mul_zero a

    -- the highest coefficient apart
    pub remainder-last : (k : ℕ) (w : ℕ → ℕ) → Symbols F w → (i : ℕ) → remainder_at (suc k) w i ≡ remainder_at k w i ⊕ w k ⊗ power k i
    unfolding remainder_at power reduce
    remainder-last zero w h i =
        ap (before (w 0) (λ k. 0) i ⊕◌) (L.zero_mul F laws (g i)) ∙ add_zero (before (w 0) (λ k. 0) i)
        ∙ sym (one-scale (w 0) (h 0) i) ∙ sym (L.zero_add F laws (w 0 ⊗ one i))
    remainder-last (suc k) w h i =
        ap (λ (R : ℕ → ℕ). reduce F d g R (w 0) i) (fun_ext (remainder-last k (λ j. w (suc j)) (λ j. h (suc j))))
        ∙ reduce-axpy (w (suc k)) (w 0) (remainder_at k (λ j. w (suc j))) (power k) i

    -- ---- the words that g divides

    pub divided-of : (k : ℕ) (w : ℕ → ℕ) → T (divides F d g k w) → Divided k w
    unfolding divides all_zero
    divided-of k w t i l =
        sym (remainder-at k w i l)
        ∙ eqb→eq (coefficients (remainder F d g k w) i) 0 (all-at d (λ i. eqb (coefficients (remainder F d g k w) i) 0) t i l)

    pub divides-of : (n : ℕ) (w : ℕ → ℕ) → Divided n w → T (divides F d g n w)
    unfolding divides all_zero
    divides-of n w h = all_of d (λ i. eqb (coefficients (remainder F d g n w) i) 0) (λ i l. eq→eqb (remainder-at n w i l ∙ h i l))

    pub divided-add : (k : ℕ) (w v : ℕ → ℕ) → Divided k w → Divided k v → Divided k (λ j. w j ⊕ v j)
    divided-add k w v hw hv i l = remainder-add k w v i ∙ ap₂ ◌⊕◌ (hw i l) (hv i l) ∙ add_zero 0

    -- two words differ by one that g divides exactly if they have the same remainder
    pub same-remainder : (k : ℕ) (w v : ℕ → ℕ) → Divided k (λ j. w j ⊕ v j) → (i : ℕ) → i < d → remainder_at k w i ≡ remainder_at k v i
    same-remainder k w v h i l = L.eq_of_add_zero F laws (sym (remainder-add k w v i) ∙ h i l)

    pub divided-difference : (k : ℕ) (w v : ℕ → ℕ) → ((i : ℕ) → i < d → remainder_at k w i ≡ remainder_at k v i) → Divided k (λ j. w j ⊕ v j)
    divided-difference k w v h i l = remainder-add k w v i ∙ ap (◌⊕ remainder_at k v i) (h i l) ∙ add_self (remainder_at k v i)

    pub divided-scale : (c k : ℕ) (w : ℕ → ℕ) → Divided k w → Divided k (λ j. c ⊗ w j)
    divided-scale c k w hw i l = remainder-scale c k w i ∙ ap (c ⊗◌) (hw i l) ∙ mul_zero c

    -- ---- a turn, where g divides x^n - 1

    module _ (n : ℕ) (pos : 0 < n) (g-divides : Divided (suc n) (unity n)) where
      -- x^n leaves the remainder 1
      power-period : (i : ℕ) → i < d → power n i ≡ one i
      power-period i l =
          sym (L.eq_of_add_zero F laws
          (ap₂ ◌⊕◌ (sym (low n pos (unity_inside n))) (sym (ap (◌⊗ power n i) (unity_last n) ∙ L.one_mul F laws (power n i) (power_below n i)))
          ∙ sym (remainder-last n (unity n) unity-below i) ∙ g-divides i l))
        where
          unity-below : Symbols F (unity n)
          unity-below j = le_trans (unity_le n j) one_below

          low : (k : ℕ) → 0 < k → ((j : ℕ) → suc j < k → unity n (suc j) ≡ 0) → remainder_at k (unity n) i ≡ one i
          low zero p h = absurd (not-suc-le-zero p)
          low (suc k) p h =
              unfold remainder_at in ap₂ (λ (R : ℕ → ℕ) (a : ℕ). reduce F d g R a i)
              (fun_ext (λ i. remainder-cong k (λ j. unity n (suc j)) (λ j. 0) (λ j m. h j (suc-le-suc m)) i ∙ remainder-zero k i)) (unity-first n)
              ∙ reduce-constant 1 (λ j. 0) i ∙ ap (◌⊕ one i) (reduce-zero i) ∙ L.zero_add F laws (one i)

      -- the word turned by one place: x times it
      turn-remainder : (w : ℕ → ℕ) → Symbols F w → w n ≡ w 0
          → (i : ℕ) → i < d → remainder_at n w i ≡ reduce F d g (remainder_at n (λ j. w (suc j))) 0 i
      turn-remainder w h p i l = go n pos p (power-period i l)
        where
          go : (m : ℕ) → 0 < m → w m ≡ w 0 → power m i ≡ one i → remainder_at m w i ≡ reduce F d g (remainder_at m (λ j. w (suc j))) 0 i
          go zero z e t = absurd (not-suc-le-zero z)
          go (suc k) z e t =
              unfold remainder_at power in reduce-constant (w 0) (remainder_at k (λ j. w (suc j))) i
              ∙ ap (reduce F d g (remainder_at k (λ j. w (suc j))) 0 i ⊕◌) (sym (one-scale (w 0) (h 0) i) ∙ ap₂ ◌⊗◌ (sym e) (sym t))
              ∙ sym (reduce-axpy (w (suc k)) 0 (remainder_at k (λ j. w (suc j))) (power k) i)
              ∙ ap (λ (R : ℕ → ℕ). reduce F d g R 0 i) (fun_ext (λ i. sym (remainder-last k (λ j. w (suc j)) (λ j. h (suc j)) i)))

      divided-turn-one : (w : ℕ → ℕ) → Symbols F w → w n ≡ w 0 → Divided n (λ j. w (suc j)) → Divided n w
      divided-turn-one w h p z i l =
          turn-remainder w h p i l ∙ reduce-cong 0 (remainder_at n (λ j. w (suc j))) (λ j. 0) z i l ∙ reduce-zero i

      -- turned back by t places
      pub divided-turn : (t : ℕ) (w : ℕ → ℕ) → Symbols F w → ((j : ℕ) → w (j + n) ≡ w j) → Divided n (λ j. w (j + t)) → Divided n w
      divided-turn zero w h p z i l = remainder-cong n w (λ j. w (j + 0)) (λ j _. ap w (omega arith)) i ∙ z i l
      divided-turn (suc t) w h p z i l =
          divided-turn t w h p (divided-turn-one (λ j. w (j + t)) (λ j. h (j + t)) (ap w (omega arith) ∙ p t ∙ ap w (omega arith))
          (λ i l. remainder-cong n (λ j. w (suc j + t)) (λ j. w (j + suc t)) (λ j _. ap w (omega arith)) i ∙ z i l)) i l

    -- ---- a sequence b that g annihilates: the sum of g's coefficients times b from any place on is 0

    module _ (pos : 0 < d) (monic : g d ≡ 1) (b : ℕ → ℕ) (b-below : Symbols F b) (none : (s : ℕ) → sum F (suc d) (λ i. g i ⊗ b (i + s)) ≡ 0) where
      -- the sum over a word is the sum over its remainder
      pub sum-remainder : (k : ℕ) (w : ℕ → ℕ) (s : ℕ) → sum F k (λ u. w u ⊗ b (u + s)) ≡ sum F d (λ i. remainder_at k w i ⊗ b (i + s))
      unfolding fold remainder_at reduce before
      sum-remainder zero w s = sym (fold-unit ◌⊕◌ 0 (field_sums F laws) d (λ i. 0 ⊗ b (i + s)) (λ i l. L.zero_mul F laws (b (i + s))))
      sum-remainder (suc k) w s =
          fold_head ◌⊕◌ 0 (field_sums F laws) k (λ u. w u ⊗ b (u + s))
          ∙ ap (w 0 ⊗ b (0 + s) ⊕◌)
          (fold_cong ◌⊕◌ 0 k (λ u l. ap (λ (x : ℕ). w (suc u) ⊗ b x) (omega arith)) ∙ sum-remainder k (λ j. w (suc j)) (suc s)
          ∙ fold_cong ◌⊕◌ 0 d (λ i l. ap (λ (x : ℕ). R i ⊗ b x) (omega arith)))
          ∙ sym (fold_head ◌⊕◌ 0 (field_sums F laws) d (λ i. before (w 0) R i ⊗ b (i + s)))
          ∙ ap (sum F d (λ i. before (w 0) R i ⊗ b (i + s)) ⊕◌) top
          ∙ sym (fold-op ◌⊕◌ 0 (field_sums F laws) d (λ i. before (w 0) R i ⊗ b (i + s)) (λ i. R (pred d) ⊗ (g i ⊗ b (i + s))))
          ∙ fold_cong ◌⊕◌ 0 d (λ i l.
          ap (before (w 0) R i ⊗ b (i + s) ⊕◌) (sym (mul_assoc (R (pred d)) (g i) (b (i + s))))
          ∙ sym (L.add-mul F laws (before (w 0) R i) (R (pred d) ⊗ g i) (b (i + s))))
        where
          R : ℕ → ℕ
          R = remainder_at k (λ j. w (suc j))

          top : before (w 0) R d ⊗ b (d + s) ≡ sum F d (λ i. R (pred d) ⊗ (g i ⊗ b (i + s)))
          top =
              ap₂ ◌⊗◌ (before_top d (w 0) R pos)
              (sym (L.eq_of_add_zero F laws (none s) ∙ ap (◌⊗ b (d + s)) monic ∙ L.one_mul F laws (b (d + s)) (b-below (d + s))))
              ∙ mul-sum F laws (R (pred d)) d (λ i. g i ⊗ b (i + s))

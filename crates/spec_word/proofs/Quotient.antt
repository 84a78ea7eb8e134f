-- Division by g with quotient and remainder: w = Q·g + R, and a multiple of g has the remainder 0 and gives its factor back.
-- Assumes nothing.
use mathlib.Core.Path.{◌≡◌, refl, sym, ap, ap₂, ◌∙◌, fun_ext}
use mathlib.Core.Logic.{◌⊎◌, inl, inr}
use Prim.Native.Nat.{ℕ, zero, suc, pred, ◌+◌, ◌-◌, ◌≤◌, ◌<◌, suc-le-suc}
use native.Mathlib.Nat.{le_trans, le_of_suc-le-suc, not-suc-le-zero, eq-or-lt_of_le, zero-lt-suc}
use native.Mathlib.Omega.{arith}
use Rattle.spec_range.specs.Fold.{fold}
use Rattle.spec_field.specs.Field.{FieldOps, FieldLaws}
use Rattle.spec_word.specs.Word.{sum}
use Rattle.spec_word.specs.Division.{before, coefficients, reduce, quotient}
use Rattle.spec_range.proofs.Fold.{fold_head, fold-unit, fold-extend}
use Rattle.spec_field.proofs.Laws as L
use Rattle.spec_word.proofs.Sums.{Symbols, field_sums}
use Rattle.spec_word.proofs.Division.{remainder_at, remainder-at, remainder-below, remainder-cong}

-- the polynomial of the k lowest coefficients
pub prefix : ℕ → (ℕ → ℕ) → ℕ → ℕ
prefix zero w = λ i. 0
prefix (suc k) w = before (w 0) (prefix k (λ j. w (suc j)))

pub prefix_below : (k : ℕ) (w : ℕ → ℕ) (i : ℕ) → i < k → prefix k w i ≡ w i
unfolding prefix before
prefix_below zero w i l = absurd (not-suc-le-zero l)
prefix_below (suc k) w zero l = refl
prefix_below (suc k) w (suc i) l = prefix_below k (λ j. w (suc j)) i (le_of_suc-le-suc l)

prefix_null : (k : ℕ) (w : ℕ → ℕ) (i : ℕ) → (i < k → w i ≡ 0) → prefix k w i ≡ 0
unfolding prefix before
prefix_null zero w i h = refl
prefix_null (suc k) w zero h = h (zero-lt-suc k)
prefix_null (suc k) w (suc i) h = prefix_null k (λ j. w (suc j)) i (λ l. h (suc-le-suc l))

module _ (F : FieldOps) (d : ℕ) (g : ℕ → ℕ) where
  open F use {q, add as ◌⊕◌, mul as ◌⊗◌}

  infixl 60 ◌⊕◌
  infixl 70 ◌⊗◌
  -- the quotient, read as a polynomial
  unfoldable pub quotient_at : ℕ → (ℕ → ℕ) → ℕ → ℕ
  quotient_at zero w = λ i. 0
  quotient_at (suc k) w = before (remainder_at F d g k (λ j. w (suc j)) (pred d)) (quotient_at k (λ j. w (suc j)))

  -- (Q 0 + Q 1·x + .. + Q (k - 1)·x^(k - 1))·g
  unfoldable pub times : ℕ → (ℕ → ℕ) → ℕ → ℕ
  times zero Q = λ i. 0
  times (suc k) Q = λ i. Q 0 ⊗ g i ⊕ before 0 (times k (λ j. Q (suc j))) i

  -- x^u·g
  unfoldable pub raised : ℕ → ℕ → ℕ
  raised zero = g
  raised (suc u) = before 0 (raised u)

  -- S + Q·g
  unfoldable pub combine : ℕ → (ℕ → ℕ) → (ℕ → ℕ) → ℕ → ℕ
  combine k Q S j = S j ⊕ times k Q j

  module _ (laws : FieldLaws F) (pos : 0 < d) where
    open laws use {add_comm, add_assoc, add_zero, add_self, mul_zero, mul_one}

    pub quotient-at : (k : ℕ) (w : ℕ → ℕ) (i : ℕ) → coefficients (quotient F d g k w) i ≡ quotient_at k w i
    unfolding quotient quotient_at before
    quotient-at zero w i = refl
    quotient-at (suc k) w zero = remainder-at F d g laws k (λ j. w (suc j)) (pred d) (omega arith)
    quotient-at (suc k) w (suc i) = quotient-at k (λ j. w (suc j)) i

    -- it goes by the coefficients that it is of
    pub quotient-cong : (k : ℕ) (w v : ℕ → ℕ) → ((j : ℕ) → j < k → w j ≡ v j) → (i : ℕ) → quotient_at k w i ≡ quotient_at k v i
    unfolding quotient_at
    quotient-cong zero w v h i = refl
    quotient-cong (suc k) w v h i =
        ap₂ (λ (a : ℕ) (R : ℕ → ℕ). before a R i)
        (remainder-cong F d g laws k (λ j. w (suc j)) (λ j. v (suc j)) (λ j l. h (suc j) (suc-le-suc l)) (pred d))
        (fun_ext (quotient-cong k (λ j. w (suc j)) (λ j. v (suc j)) (λ j l. h (suc j) (suc-le-suc l))))

    pub raised-low : (u j : ℕ) → j < u → raised u j ≡ 0
    unfolding raised before
    raised-low zero j l = absurd (not-suc-le-zero l)
    raised-low (suc u) zero l = refl
    raised-low (suc u) (suc j) l = raised-low u j (le_of_suc-le-suc l)

    pub raised-high : (u j : ℕ) → u ≤ j → raised u j ≡ g (j - u)
    unfolding raised before
    raised-high zero j l = ap g (omega arith)
    raised-high (suc u) zero l = absurd (not-suc-le-zero l)
    raised-high (suc u) (suc j) l = raised-high u j (le_of_suc-le-suc l) ∙ ap g (omega arith)

    pub times-sum : (k : ℕ) (Q : ℕ → ℕ) (j : ℕ) → times k Q j ≡ sum F k (λ u. Q u ⊗ raised u j)
    unfolding times raised before fold
    times-sum zero Q j = refl
    times-sum (suc k) Q zero =
        ap (Q 0 ⊗ g 0 ⊕◌) (sym (fold-unit ◌⊕◌ 0 (field_sums F laws) k (λ u. Q (suc u) ⊗ 0) (λ u l. mul_zero (Q (suc u)))))
        ∙ sym (fold_head ◌⊕◌ 0 (field_sums F laws) k (λ u. Q u ⊗ raised u 0))
    times-sum (suc k) Q (suc j) =
        ap (Q 0 ⊗ g (suc j) ⊕◌) (times-sum k (λ u. Q (suc u)) j) ∙ sym (fold_head ◌⊕◌ 0 (field_sums F laws) k (λ u. Q u ⊗ raised u (suc j)))

    pub times-cong : (k : ℕ) {P Q : ℕ → ℕ} → ((u : ℕ) → P u ≡ Q u) → (j : ℕ) → times k P j ≡ times k Q j
    times-cong k h j = ap (λ (f : ℕ → ℕ). times k f j) (fun_ext h)

    -- coefficients of Q that are 0 may be left out
    pub times-extend : (m k : ℕ) (Q : ℕ → ℕ) → m ≤ k → ((u : ℕ) → m ≤ u → Q u ≡ 0) → (j : ℕ) → times k Q j ≡ times m Q j
    times-extend m k Q l z j =
        times-sum k Q j
        ∙ fold-extend ◌⊕◌ 0 (field_sums F laws) m k l (λ u. Q u ⊗ raised u j) (λ u h. ap (◌⊗ raised u j) (z u h) ∙ L.zero_mul F laws (raised u j))
        ∙ sym (times-sum m Q j)

    -- w = Q·g + R
    pub division : (k : ℕ) (w : ℕ → ℕ) (i : ℕ) → prefix k w i ≡ times k (quotient_at k w) i ⊕ remainder_at F d g k w i
    unfolding prefix times quotient_at remainder_at reduce before
    division zero w i = sym (add_zero 0)
    division (suc k) w zero =
        sym (add_zero (w 0)) ∙ ap (w 0 ⊕◌) (sym (add_self (top ⊗ g 0))) ∙ sym (add_assoc (w 0) (top ⊗ g 0) (top ⊗ g 0))
        ∙ add_comm (w 0 ⊕ top ⊗ g 0) (top ⊗ g 0) ∙ ap (◌⊕ (w 0 ⊕ top ⊗ g 0)) (sym (add_zero (top ⊗ g 0)))
      where
        top : ℕ
        top = remainder_at F d g k (λ j. w (suc j)) (pred d)
    division (suc k) w (suc i) = division k (λ j. w (suc j)) i ∙ twice (times k (quotient_at k (λ j. w (suc j))) i) (remainder_at F d g k (λ j. w (suc j)) i) (top ⊗ g (suc i))
      where
        top : ℕ
        top = remainder_at F d g k (λ j. w (suc j)) (pred d)

        -- what is added to both cancels
        twice : (a b c : ℕ) → a ⊕ b ≡ c ⊕ a ⊕ (b ⊕ c)
        twice a b c =
            sym (L.add_twice F laws (a ⊕ b) c) ∙ add_comm (a ⊕ b ⊕ c) c ∙ ap (c ⊕◌) (add_assoc a b c) ∙ sym (add_assoc c a (b ⊕ c))

    -- ---- a polynomial of degree below d is its own remainder

    low-remainder : (k : ℕ) (w : ℕ → ℕ) → ((i : ℕ) → d ≤ i → i < k → w i ≡ 0) → (i : ℕ) → remainder_at F d g k w i ≡ prefix k w i
    unfolding prefix remainder_at reduce
    low-remainder zero w z i = refl
    low-remainder (suc k) w z i =
        let ih : (i : ℕ) → remainder_at F d g k (λ j. w (suc j)) i ≡ prefix k (λ j. w (suc j)) i
        = low-remainder k (λ j. w (suc j)) (λ i l h. z (suc i) (omega arith) (suc-le-suc h)) in
        ap₂ (λ (R : ℕ → ℕ) (x : ℕ). before (w 0) R i ⊕ x ⊗ g i) (fun_ext ih)
        (ih (pred d) ∙ prefix_null k (λ j. w (suc j)) (pred d) (λ h. z (suc (pred d)) (omega arith) (suc-le-suc h)))
        ∙ ap (before (w 0) (prefix k (λ j. w (suc j))) i ⊕◌) (L.zero_mul F laws (g i))
        ∙ add_zero (before (w 0) (prefix k (λ j. w (suc j))) i)

    -- and the quotient of a polynomial of k coefficients has k - d
    pub quotient-above : (k : ℕ) (w : ℕ → ℕ) (i : ℕ) → ((j : ℕ) → d + i ≤ j → j < k → w j ≡ 0) → quotient_at k w i ≡ 0
    unfolding quotient_at before
    quotient-above zero w i z = refl
    quotient-above (suc k) w zero z =
        low-remainder k (λ j. w (suc j)) (λ i l h. z (suc i) (omega arith) (suc-le-suc h)) (pred d)
        ∙ prefix_null k (λ j. w (suc j)) (pred d) (λ h. z (suc (pred d)) (omega arith) (suc-le-suc h))
    quotient-above (suc k) w (suc i) z = quotient-above k (λ j. w (suc j)) i (λ j l h. z (suc j) (omega arith) (suc-le-suc h))

    -- ---- quotient and remainder of S + Q·g are Q and S

    module _ (monic : g d ≡ 1) (above : (i : ℕ) → d < i → g i ≡ 0) where
      -- a remainder has d coefficients
      pub remainder-above : (k : ℕ) (w : ℕ → ℕ) → Symbols F w → (i : ℕ) → d ≤ i → remainder_at F d g k w i ≡ 0
      unfolding remainder_at reduce before
      remainder-above zero w h i l = refl
      remainder-above (suc k) w h zero l = absurd (not-suc-le-zero (le_trans pos l))
      remainder-above (suc k) w h (suc i) l =
          go (eq-or-lt_of_le l) (remainder_at F d g k (λ j. w (suc j))) (remainder-below F d g laws k (λ j. w (suc j)) (λ j. h (suc j)))
          (remainder-above k (λ j. w (suc j)) (λ j. h (suc j)) i)
        where
          go : (d ≡ suc i) ⊎ (d < suc i) → (R : ℕ → ℕ) → Symbols F R → (d ≤ i → R i ≡ 0) → R i ⊕ R (pred d) ⊗ g (suc i) ≡ 0
          go (inl e) R b ih =
              ap₂ (λ (x y : ℕ). R i ⊕ R x ⊗ y) (omega arith) (ap g (sym e) ∙ monic) ∙ ap (R i ⊕◌) (mul_one (R i) (b i)) ∙ add_self (R i)
          go (inr c) R b ih =
              ap₂ (λ (x y : ℕ). x ⊕ R (pred d) ⊗ y) (ih (le_of_suc-le-suc c)) (above (suc i) c) ∙ ap (0 ⊕◌) (mul_zero (R (pred d))) ∙ add_zero 0

      -- what is left of it without its constant term, beside the rest of Q
      rest : (ℕ → ℕ) → (ℕ → ℕ) → ℕ → ℕ
      rest Q S j = S (suc j) ⊕ Q 0 ⊗ g (suc j)

      rest-above : (Q S : ℕ → ℕ) → ((i : ℕ) → d ≤ i → S i ≡ 0) → (i : ℕ) → d ≤ i → rest Q S i ≡ 0
      unfolding rest
      rest-above Q S z i l =
          ap₂ (λ (x y : ℕ). x ⊕ Q 0 ⊗ y) (z (suc i) (omega arith)) (above (suc i) (suc-le-suc l)) ∙ ap (0 ⊕◌) (mul_zero (Q 0)) ∙ add_zero 0

      rest-top : (Q S : ℕ → ℕ) → Q 0 < q → ((i : ℕ) → d ≤ i → S i ≡ 0) → rest Q S (pred d) ≡ Q 0
      unfolding rest
      rest-top Q S h z =
          ap₂ (λ (x y : ℕ). x ⊕ Q 0 ⊗ y) (z (suc (pred d)) (omega arith)) (ap g (omega arith) ∙ monic)
          ∙ ap (0 ⊕◌) (mul_one (Q 0) h) ∙ L.zero_add F laws (Q 0)

      combine-suc : (k : ℕ) (Q S : ℕ → ℕ) (j : ℕ) → combine (suc k) Q S (suc j) ≡ combine k (λ i. Q (suc i)) (rest Q S) j
      unfolding combine rest times before
      combine-suc k Q S j = sym (add_assoc (S (suc j)) (Q 0 ⊗ g (suc j)) (times k (λ i. Q (suc i)) j))

      -- the division's last step, where the rest has been divided
      combine-step : (k m : ℕ) (Q S : ℕ → ℕ) → Q 0 < q → ((i : ℕ) → d ≤ i → S i ≡ 0)
          → ((i : ℕ) → i < d → remainder_at F d g m (λ j. combine (suc k) Q S (suc j)) i ≡ rest Q S i)
          → (i : ℕ) → i < d → remainder_at F d g (suc m) (combine (suc k) Q S) i ≡ S i
      unfolding combine remainder_at reduce times before rest
      combine-step k m Q S h z left zero b =
          ap₂ (λ (x y : ℕ). S 0 ⊕ x ⊕ y ⊗ g 0) (add_zero (Q 0 ⊗ g 0)) (left (pred d) (omega arith) ∙ rest-top Q S h z)
          ∙ L.add_twice F laws (S 0) (Q 0 ⊗ g 0)
      combine-step k m Q S h z left (suc i) b =
          ap₂ (λ (x y : ℕ). x ⊕ y ⊗ g (suc i)) (left i (omega arith)) (left (pred d) (omega arith) ∙ rest-top Q S h z)
          ∙ L.add_twice F laws (S (suc i)) (Q 0 ⊗ g (suc i))

      pub combine-remainder : (k m : ℕ) (Q S : ℕ → ℕ) → Symbols F Q → ((i : ℕ) → d ≤ i → S i ≡ 0) → k + d ≤ m
          → (i : ℕ) → i < d → remainder_at F d g m (combine k Q S) i ≡ S i
      unfolding combine times
      combine-remainder zero m Q S h z l i b =
          remainder-cong F d g laws m (combine zero Q S) S (λ j _. add_zero (S j)) i
          ∙ low-remainder m S (λ i c _. z i c) i ∙ prefix_below m S i (omega arith)
      combine-remainder (suc k) zero Q S h z l i b = absurd (not-suc-le-zero {n = k + d} (omega arith))
      combine-remainder (suc k) (suc m) Q S h z l i b =
          combine-step k m Q S (h 0) z
          (λ i c. remainder-cong F d g laws m (λ j. combine (suc k) Q S (suc j)) (combine k (λ i. Q (suc i)) (rest Q S)) (λ j _. combine-suc k Q S j) i
          ∙ combine-remainder k m (λ i. Q (suc i)) (rest Q S) (λ i. h (suc i)) (rest-above Q S z) (omega arith) i c)
          i b

      pub combine-quotient : (k m : ℕ) (Q S : ℕ → ℕ) → Symbols F Q → ((i : ℕ) → d ≤ i → S i ≡ 0) → k + d ≤ m
          → (i : ℕ) → quotient_at m (combine k Q S) i ≡ prefix k Q i
      unfolding combine times quotient_at prefix before
      combine-quotient zero m Q S h z l i = quotient-above m (combine zero Q S) i (λ j c _. add_zero (S j) ∙ z j (omega arith))
      combine-quotient (suc k) zero Q S h z l i = absurd (not-suc-le-zero {n = k + d} (omega arith))
      combine-quotient (suc k) (suc m) Q S h z l zero =
          remainder-cong F d g laws m (λ j. combine (suc k) Q S (suc j)) (combine k (λ i. Q (suc i)) (rest Q S)) (λ j _. combine-suc k Q S j) (pred d)
          ∙ combine-remainder k m (λ i. Q (suc i)) (rest Q S) (λ i. h (suc i)) (rest-above Q S z) (omega arith) (pred d) (omega arith)
          ∙ rest-top Q S (h 0) z
      combine-quotient (suc k) (suc m) Q S h z l (suc i) =
          ap (λ (w : ℕ → ℕ). quotient_at m w i) (fun_ext (combine-suc k Q S))
          ∙ combine-quotient k m (λ i. Q (suc i)) (rest Q S) (λ i. h (suc i)) (rest-above Q S z) (omega arith) i

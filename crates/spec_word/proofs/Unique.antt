-- Division by g, as the definitions' lists say it: w = Q·g + R with R of degree below d in just one way; words have equal remainders exactly where
-- g divides their difference, and the remainder zero exactly where they are code words.
-- Assumes nothing.
use mathlib.Core.Path.{◌≡◌, sym, ap, ◌∙◌, subst}
use mathlib.Core.List.{List}
use Prim.Native.Nat.{ℕ, zero, suc, ◌+◌, ◌≤◌, ◌<◌}
use lib.Dec.{T}
use lib.ListN.{length}
use lib.Seq.{ext_get_or}
use Rattle.spec_range.specs.Table.{table}
use Rattle.spec_range.proofs.Table.{table-length, table_at}
use Rattle.spec_field.specs.Field.{FieldOps, FieldLaws}
use Rattle.spec_word.specs.Division.{coefficients, reduce, remainder, quotient, divides}
use Rattle.spec_word.specs.CyclicCode.{Generator}
use Rattle.spec_word.proofs.Sums.{Symbols}
use Rattle.spec_word.proofs.Division as D
use Rattle.spec_word.proofs.Quotient as Q

module _ (F : FieldOps) (laws : FieldLaws F) (n d : ℕ) (g : ℕ → ℕ) (G : Generator F n d g) where
  open F use {add as ◌⊕◌}
  open G use {degree_pos, degree_lt, monic, above}

  infixl 60 ◌⊕◌
  -- ---- quotient and remainder

  -- w = Q·g + R
  pub division_exists : (w : ℕ → ℕ) (j : ℕ) → j < n
      → w j ≡ Q.times F d g n (coefficients (quotient F d g n w)) j ⊕ D.remainder_at F d g n w j
  division_exists w j l =
      sym (Q.prefix_below n w j l) ∙ Q.division F d g laws degree_pos n w j
      ∙ ap (◌⊕ D.remainder_at F d g n w j)
      (Q.times-cong F d g laws degree_pos n (λ u. sym (Q.quotient-at F d g laws degree_pos n w u)) j)

  -- w = P·g + S, P of k symbols and S of degree below d
  pub record Divides (k : ℕ) (P S w : ℕ → ℕ) : Type 0 where
    pub symbols : Symbols F P
    pub low : (i : ℕ) → d ≤ i → S i ≡ 0
    pub fits : k + d ≤ n
    pub equal : (j : ℕ) → j < n → w j ≡ Q.combine F d g k P S j

  module _ (k : ℕ) (P S w : ℕ → ℕ) (h : Divides k P S w) where
    -- then S is the remainder
    pub remainder-unique : (i : ℕ) → i < d → coefficients (remainder F d g n w) i ≡ S i
    remainder-unique i l =
        D.remainder-at F d g laws n w i l ∙ D.remainder-cong F d g laws n w (Q.combine F d g k P S) h.equal i
        ∙ Q.combine-remainder F d g laws degree_pos monic above k n P S h.symbols h.low h.fits i l

    -- and P the quotient
    pub quotient-unique : (i : ℕ) → i < k → coefficients (quotient F d g n w) i ≡ P i
    quotient-unique i l =
        Q.quotient-at F d g laws degree_pos n w i ∙ Q.quotient-cong F d g laws degree_pos n w (Q.combine F d g k P S) h.equal i
        ∙ Q.combine-quotient F d g laws degree_pos monic above k n P S h.symbols h.low h.fits i ∙ Q.prefix_below k P i l

  -- ---- equal remainders

  length-remainder : (k : ℕ) (w : ℕ → ℕ) → length (remainder F d g k w) ≡ d
  unfolding remainder
  length-remainder zero w = table-length d (λ i. 0)
  length-remainder (suc k) w = table-length d (reduce F d g (coefficients (remainder F d g k (λ j. w (suc j)))) (w 0))

  -- a remainder is the list of its d symbols, and known by them
  pub remainder-listed : (w : ℕ → ℕ) → table d (coefficients (remainder F d g n w)) ≡ remainder F d g n w
  remainder-listed w =
      ext_get_or 0 (table d (coefficients (remainder F d g n w))) (remainder F d g n w) (table-length d _ ∙ sym (length-remainder n w)) (λ i l.
      table_at d (coefficients (remainder F d g n w)) (subst (λ (x : ℕ). i < x) (table-length d _) l))

  remainder_is : (w : ℕ → ℕ) {R : List ℕ} → length R ≡ d → ((i : ℕ) → i < d → D.remainder_at F d g n w i ≡ coefficients R i) → remainder F d g n w ≡ R
  remainder_is w {R} e same =
      ext_get_or 0 (remainder F d g n w) R (length-remainder n w ∙ sym e) (λ i l.
      let h : i < d = subst (λ (x : ℕ). i < x) (length-remainder n w) l in D.remainder-at F d g laws n w i h ∙ same i h)

  same-remainder : (w v : ℕ → ℕ) → ((i : ℕ) → i < d → D.remainder_at F d g n w i ≡ D.remainder_at F d g n v i) → remainder F d g n w ≡ remainder F d g n v
  same-remainder w v same = remainder_is w (length-remainder n v) (λ i l. same i l ∙ sym (D.remainder-at F d g laws n v i l))

  pub equal_remainders : (w v : ℕ → ℕ) → T (divides F d g n (λ j. w j ⊕ v j)) → remainder F d g n w ≡ remainder F d g n v
  equal_remainders w v t = same-remainder w v (D.same-remainder F d g laws n w v (D.divided-of F d g laws n (λ j. w j ⊕ v j) t))

  pub difference_of_equal : (w v : ℕ → ℕ) → remainder F d g n w ≡ remainder F d g n v → T (divides F d g n (λ j. w j ⊕ v j))
  difference_of_equal w v e =
      D.divides-of F d g laws n (λ j. w j ⊕ v j) (D.divided-difference F d g laws n w v (λ i l.
      sym (D.remainder-at F d g laws n w i l) ∙ ap (λ (R : List ℕ). coefficients R i) e ∙ D.remainder-at F d g laws n v i l))

  -- with a code word added it stays
  pub remainder_added : (w v : ℕ → ℕ) → T (divides F d g n v) → remainder F d g n (λ j. w j ⊕ v j) ≡ remainder F d g n w
  remainder_added w v t =
      same-remainder (λ j. w j ⊕ v j) w (λ i l.
      D.remainder-add F d g laws n w v i ∙ ap (D.remainder_at F d g n w i ⊕◌) (D.divided-of F d g laws n v t i l) ∙ laws.add_zero _)

  -- a word's places below n are all that counts
  pub remainder_same : (w v : ℕ → ℕ) → ((j : ℕ) → j < n → w j ≡ v j) → remainder F d g n w ≡ remainder F d g n v
  remainder_same w v h = same-remainder w v (λ i _. D.remainder-cong F d g laws n w v h i)

  -- ---- the remainder zero

  pub code_remainder : (w : ℕ → ℕ) → T (divides F d g n w) → remainder F d g n w ≡ table d (λ i. 0)
  code_remainder w t = remainder_is w (table-length d (λ i. 0)) (λ i l. D.divided-of F d g laws n w t i l ∙ sym (table_at d (λ i. 0) l))

  pub code_of_zero : (w : ℕ → ℕ) → remainder F d g n w ≡ table d (λ i. 0) → T (divides F d g n w)
  code_of_zero w e =
      D.divides-of F d g laws n w (λ i l.
      sym (D.remainder-at F d g laws n w i l) ∙ ap (λ (R : List ℕ). coefficients R i) e ∙ table_at d (λ i. 0) l)

-- Code words: closed under turns, multiples and sums, so that a word is one exactly if its moved word is; and a word that g annihilates checks them all.
-- Assumes nothing.
use mathlib.Core.Path.{◌≡◌, sym, ap, ◌∙◌, fun_ext, subst}
use Prim.Native.Nat.{ℕ, suc, pred, ◌+◌, ◌-◌, ◌*◌, ◌%◌, ◌≤◌, ◌<◌}
use native.Mathlib.Nat.{le_of_lt, mod-lt, add-mul, add-zero as nat-add-zero}
use native.Mathlib.Omega.{arith}
use lib.Dec.{T}
use Rattle.spec_range.proofs.Tests.{same_test}
use Rattle.spec_range.proofs.Fold.{fold_cong, fold-unit, fold-extend}
use Rattle.spec_field.specs.Field.{FieldOps, FieldLaws}
use Rattle.spec_field.proofs.Laws as L
use Rattle.spec_word.specs.Word.{sum, product}
use Rattle.spec_word.specs.Division.{divides}
use Rattle.spec_word.specs.CyclicCode.{Generator}
use Rattle.spec_word.proofs.Sums.{field_sums}
use Rattle.spec_word.proofs.Place.{Word, multiple, period_times, period_mod, period_back}
use Rattle.spec_word.proofs.Product.{Shifted, product_comm, product_period}
use Rattle.spec_word.proofs.Division as D

-- a code word is one by its places below n
pub divides_cong : (F : FieldOps) → FieldLaws F → (n d : ℕ) (g w v : ℕ → ℕ) → ((j : ℕ) → j < n → w j ≡ v j) → divides F d g n w ≡ divides F d g n v
divides_cong F laws n d g w v h =
    same_test (divides F d g n w) (divides F d g n v)
    (λ t. D.divides-of F d g laws n v (λ i l. sym (D.remainder-cong F d g laws n w v h i) ∙ D.divided-of F d g laws n w t i l))
    (λ t. D.divides-of F d g laws n w (λ i l. D.remainder-cong F d g laws n w v h i ∙ D.divided-of F d g laws n v t i l))

module _ (F : FieldOps) (laws : FieldLaws F) (n d : ℕ) (g : ℕ → ℕ) (G : Generator F n d g) where
  open F use {q, add as ◌⊕◌, mul as ◌⊗◌, inv}
  open G use {degree_pos, degree_lt, monic, above, divides_unity}

  infixl 60 ◌⊕◌
  infixl 70 ◌⊗◌
  abbrev pub CodeWord : (ℕ → ℕ) → Type 0
  CodeWord w = D.Divided F d g n w

  pub n_pos : 0 < n
  n_pos = omega (arith, degree_lt)

  -- ---- turns

  turn_back : (t : ℕ) {w : ℕ → ℕ} → Word F n w → CodeWord (λ j. w (j + t)) → CodeWord w
  turn_back t {w} w-word h =
      D.divided-turn F d g laws n n_pos
      (D.divided-of F d g laws _ _ divides_unity) t w w-word.symbol w-word.period h

  turned : (t : ℕ) {w : ℕ → ℕ} → Word F n w → Word F n (λ j. w (j + t))
  turned t {w} w-word = record { symbol = λ j. w-word.symbol (j + t); period = λ j. ap w (omega arith) ∙ w-word.period (j + t) }

  -- to turn back by t is to turn on by (n - 1) × t
  turn_on : (t : ℕ) {w : ℕ → ℕ} → Word F n w → CodeWord w → CodeWord (λ j. w (j + t))
  turn_on t {w} w-word h =
      turn_back (t * pred n) (turned t w-word)
      (subst (λ (v : ℕ → ℕ). CodeWord v) (fun_ext (λ j. sym (period_back n w w-word.period n_pos t j))) h)

  -- ---- the code is linear and cyclic

  pub code_add : (w v : ℕ → ℕ) → T (divides F d g n w) → T (divides F d g n v) → T (divides F d g n (λ j. w j ⊕ v j))
  code_add w v hw hv = D.divides-of F d g laws n _ (D.divided-add F d g laws n w v (D.divided-of F d g laws n w hw) (D.divided-of F d g laws n v hv))

  pub code_scale : (c : ℕ) (w : ℕ → ℕ) → T (divides F d g n w) → T (divides F d g n (λ j. c ⊗ w j))
  code_scale c w h = D.divides-of F d g laws n _ (D.divided-scale F d g laws c n w (D.divided-of F d g laws n w h))

  pub code_turn : (t : ℕ) {w : ℕ → ℕ} → Word F n w → T (divides F d g n w) → T (divides F d g n (λ j. w (j + t)))
  code_turn t {w} w-word h = D.divides-of F d g laws n _ (turn_on t w-word (D.divided-of F d g laws n w h))

  -- ---- a word moved: turned by t, multiplied by c, and with v added

  module _ (t : ℕ) {c : ℕ} (pos : 0 < c) (hc : c < q) {v : ℕ → ℕ} (v-word : Word F n v) (v-code : CodeWord v) where
    module _ {w w' : ℕ → ℕ} (w-word : Word F n w) (w'-word : Word F n w') (shifted : Shifted F t c v w w') where
      code-shifted : CodeWord w → CodeWord w'
      code-shifted h =
          turn_back t w'-word (subst (λ (x : ℕ → ℕ). CodeWord x) (fun_ext (λ j. sym (shifted j)))
          (D.divided-add F d g laws n (λ j. c ⊗ w j) (λ j. v (j + t))
          (D.divided-scale F d g laws c n w h) (turn_on t v-word v-code)))

      code-shifted-back : CodeWord w' → CodeWord w
      code-shifted-back h =
          subst (λ (x : ℕ → ℕ). CodeWord x)
          (fun_ext (λ j.
          ap (inv c ⊗◌) (ap (◌⊕ v (j + t)) (shifted j) ∙ L.add_twice F laws (c ⊗ w j) (v (j + t)))
          ∙ L.inv-mul-mul F laws pos hc (w j) (w-word.symbol j)))
          (D.divided-scale F d g laws (inv c) n (λ j. w' (j + t) ⊕ v (j + t))
          (D.divided-add F d g laws n (λ j. w' (j + t)) (λ j. v (j + t)) (turn_on t w'-word h) (turn_on t v-word v-code)))

      pub divides-shifted : divides F d g n w' ≡ divides F d g n w
      divides-shifted =
          same_test (divides F d g n w') (divides F d g n w)
          (λ h. D.divides-of F d g laws n w (code-shifted-back (D.divided-of F d g laws n w' h)))
          (λ h. D.divides-of F d g laws n w' (code-shifted (D.divided-of F d g laws n w h)))

  -- ---- words that g annihilates

  module _ {b : ℕ → ℕ} (b-word : Word F n b) (b-product : (m : ℕ) → m < n → product F n g b m ≡ 0) where
    -- (n - 1) × u on is u back
    back : (x u : ℕ) → u ≤ n → b (x + u * pred n) ≡ b (x + (n - u))
    back x u l =
        sym (b-word.period (x + u * pred n)) ∙ ap b (omega (arith, multiple n u n_pos)) ∙ period_times n b b-word.period u (x + (n - u))

    -- the sequence of b's symbols down from place m, which g annihilates
    down : ℕ → ℕ → ℕ
    down m u = b (m + u * pred n)

    annihilated : (m s : ℕ) → sum F (suc d) (λ i. g i ⊗ down m (i + s)) ≡ 0
    unfolding down product
    annihilated m s =
        sym (fold-extend ◌⊕◌ 0 (field_sums F laws) (suc d) n degree_lt (λ i. g i ⊗ down m (i + s))
        (λ i l. ap (◌⊗ down m (i + s)) (above i l) ∙ L.zero_mul F laws (down m (i + s))))
        ∙ fold_cong ◌⊕◌ 0 n (λ u l.
        ap (g u ⊗◌) (ap b (omega (arith, add-mul u s (pred n))) ∙ back (m + s * pred n) u (le_of_lt l)))
        ∙ sym (period_mod n (product F n g b) (product_period F laws n g b b-word.period) (m + s * pred n))
        ∙ b-product ((m + s * pred n) % n) (mod-lt (m + s * pred n) n_pos)

    -- a code word passes every check of b
    pub check-zero : {v : ℕ → ℕ} → Word F n v → CodeWord v → (m : ℕ) → product F n b v m ≡ 0
    unfolding down product
    check-zero {v} v-word h m =
        product_comm F laws n b v b-word.period v-word.period m
        ∙ fold_cong ◌⊕◌ 0 n (λ u l. ap (v u ⊗◌) (sym (back m u (le_of_lt l)) ∙ ap (λ (x : ℕ). b (m + x * pred n)) (sym (nat-add-zero u))))
        ∙ D.sum-remainder F d g laws degree_pos monic (down m) (λ u. b-word.symbol (m + u * pred n)) (annihilated m) n v 0
        ∙ fold-unit ◌⊕◌ 0 (field_sums F laws) d _ (λ i l. ap (◌⊗ down m (i + 0)) (h i l) ∙ L.zero_mul F laws (down m (i + 0)))

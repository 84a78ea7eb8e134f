-- Words through a map of fields: the image of a product is the product of the images, and so of a remainder and a quotient. So g divides w over the one field
-- exactly if the image of g divides the image of w over the other.
-- Assumes nothing.
use mathlib.Core.Path.{◌≡◌, refl, sym, ap, ap₂, ◌∙◌, subst, fun_ext}
use mathlib.Core.Bool.{Bool, true, false, cond, ◌||◌}
use Prim.Native.Nat.{ℕ, zero, suc, pred, ◌+◌, ◌-◌, ◌<◌}
use native.Mathlib.Nat.{le_trans}
use lib.Dec.{T, eqb}
use Rattle.spec_range.specs.Table.{table}
use Rattle.spec_range.proofs.Tests.{same_test}
use Rattle.spec_range.proofs.Fold.{fold_cong, fold-map}
use Rattle.spec_range.proofs.Table.{table_same}
use Rattle.spec_field.specs.Field.{FieldOps, FieldLaws}
use Rattle.spec_field.specs.Map.{FieldMap}
use Rattle.spec_field.proofs.Laws.{zero_below}
use Rattle.spec_field.proofs.Map.{image_zero, image_null, image_apart}
use Rattle.spec_word.specs.Word.{sum, product}
use Rattle.spec_word.specs.Division.{before, coefficients, reduce, remainder, quotient, divides}
use Rattle.spec_word.specs.CyclicCode.{unity, Generator}
use Rattle.spec_word.proofs.Sums.{Symbols}
use Rattle.spec_word.proofs.Division.{unity_le, remainder_at, before-below, reduce-cong, remainder-at, remainder-below, divided-of, divides-of}
use Rattle.spec_word.proofs.Quotient.{quotient_at, quotient-at}

-- the remainder is the list of its d symbols
remainder-table : (F : FieldOps) → FieldLaws F → (d : ℕ) (g : ℕ → ℕ) (k : ℕ) (w : ℕ → ℕ) → remainder F d g k w ≡ table d (remainder_at F d g k w)
unfolding remainder remainder_at
remainder-table F laws d g zero w = refl
remainder-table F laws d g (suc k) w =
    table_same d (λ i l. reduce-cong F d g laws (w 0) (coefficients (remainder F d g k (λ j. w (suc j)))) (remainder_at F d g k (λ j. w (suc j)))
    (remainder-at F d g laws k (λ j. w (suc j))) i l)

module _ {F F' : FieldOps} (laws : FieldLaws F) (laws' : FieldLaws F') (M : FieldMap F F') where
  open F use {q, add as ◌⊕◌, mul as ◌⊗◌}
  open F' use {add as ◌⊕'◌, mul as ◌⊗'◌}
  open laws use {one_below, add_below, mul_below}
  open M use {image, image_below, image_one, image_add, image_mul}

  infixl 60 ◌⊕◌ ◌⊕'◌
  infixl 70 ◌⊗◌ ◌⊗'◌
  -- the image of a word, symbol by symbol
  abbrev pub mapped : (ℕ → ℕ) → ℕ → ℕ
  mapped w = λ j. image (w j)

  pub mapped_below : (w : ℕ → ℕ) → Symbols F w → Symbols F' (mapped w)
  mapped_below w h j = image_below (w j) (h j)

  -- ---- sums and products

  pub sum_mapped : (n : ℕ) (f : ℕ → ℕ) → ((i : ℕ) → i < n → f i < q) → image (sum F n f) ≡ sum F' n (mapped f)
  sum_mapped = fold-map ◌⊕◌ 0 (λ (a : ℕ). a < q) (zero_below F laws) add_below ◌⊕'◌ 0 image (image_zero laws laws' M) image_add

  pub product_mapped : (n : ℕ) (a b : ℕ → ℕ) → Symbols F a → Symbols F b → (m : ℕ) → image (product F n a b m) ≡ product F' n (mapped a) (mapped b) m
  unfolding product
  product_mapped n a b ha hb m =
      sum_mapped n (λ u. a u ⊗ b (m + (n - u))) (λ u _. mul_below (a u) (b (m + (n - u))))
      ∙ fold_cong ◌⊕'◌ 0 n (λ u _. image_mul (a u) (b (m + (n - u))) (ha u) (hb (m + (n - u))))

  -- ---- division by g

  before-mapped : (a : ℕ) (R : ℕ → ℕ) (i : ℕ) → image (before a R i) ≡ before (image a) (mapped R) i
  unfolding before
  before-mapped a R zero = refl
  before-mapped a R (suc i) = refl

  unity-mapped : (n i : ℕ) → image (unity n i) ≡ unity n i
  unfolding unity
  unity-mapped n i = go (eqb i 0 || eqb i n)
    where
      go : (b : Bool) → image (cond b 1 0) ≡ cond b 1 0
      go true = image_one
      go false = image_zero laws laws' M

  module _ (d : ℕ) (g : ℕ → ℕ) (hg : Symbols F g) where
    reduce-mapped : (a : ℕ) (R : ℕ → ℕ) → a < q → Symbols F R → (i : ℕ) → image (reduce F d g R a i) ≡ reduce F' d (mapped g) (mapped R) (image a) i
    unfolding reduce
    reduce-mapped a R ha hR i =
        image_add (before a R i) (R (pred d) ⊗ g i) (before-below F d g laws a R ha hR i) (mul_below (R (pred d)) (g i))
        ∙ ap₂ ◌⊕'◌ (before-mapped a R i) (image_mul (R (pred d)) (g i) (hR (pred d)) (hg i))

    remainder-mapped-at : (k : ℕ) (w : ℕ → ℕ) → Symbols F w → (i : ℕ) → image (remainder_at F d g k w i) ≡ remainder_at F' d (mapped g) k (mapped w) i
    unfolding remainder_at
    remainder-mapped-at zero w h i = image_zero laws laws' M
    remainder-mapped-at (suc k) w h i =
        reduce-mapped (w 0) (remainder_at F d g k (λ j. w (suc j))) (h 0) (remainder-below F d g laws k (λ j. w (suc j)) (λ j. h (suc j))) i
        ∙ ap (λ (R : ℕ → ℕ). reduce F' d (mapped g) R (image (w 0)) i) (fun_ext (remainder-mapped-at k (λ j. w (suc j)) (λ j. h (suc j))))

    pub remainder-mapped : (k : ℕ) (w : ℕ → ℕ) → Symbols F w
        → remainder F' d (mapped g) k (mapped w) ≡ table d (mapped (coefficients (remainder F d g k w)))
    remainder-mapped k w h =
        remainder-table F' laws' d (mapped g) k (mapped w)
        ∙ table_same d (λ i l. sym (remainder-mapped-at k w h i) ∙ ap image (sym (remainder-at F d g laws k w i l)))

    quotient-mapped-at : (k : ℕ) (w : ℕ → ℕ) → Symbols F w → (i : ℕ) → image (quotient_at F d g k w i) ≡ quotient_at F' d (mapped g) k (mapped w) i
    unfolding quotient_at
    quotient-mapped-at zero w h i = image_zero laws laws' M
    quotient-mapped-at (suc k) w h i =
        before-mapped (remainder_at F d g k (λ j. w (suc j)) (pred d)) (quotient_at F d g k (λ j. w (suc j))) i
        ∙ ap₂ (λ (a : ℕ) (Q : ℕ → ℕ). before a Q i) (remainder-mapped-at k (λ j. w (suc j)) (λ j. h (suc j)) (pred d))
        (fun_ext (quotient-mapped-at k (λ j. w (suc j)) (λ j. h (suc j))))

    pub quotient-mapped : 0 < d → (k : ℕ) (w : ℕ → ℕ) → Symbols F w
        → (i : ℕ) → coefficients (quotient F' d (mapped g) k (mapped w)) i ≡ image (coefficients (quotient F d g k w) i)
    quotient-mapped pos k w h i =
        quotient-at F' d (mapped g) laws' pos k (mapped w) i ∙ sym (quotient-mapped-at k w h i) ∙ ap image (sym (quotient-at F d g laws pos k w i))

    pub divides-mapped : (k : ℕ) (w : ℕ → ℕ) → Symbols F w → divides F' d (mapped g) k (mapped w) ≡ divides F d g k w
    divides-mapped k w h =
        same_test (divides F' d (mapped g) k (mapped w)) (divides F d g k w)
        (λ t. divides-of F d g laws k w (λ i l.
        image_null laws laws' M (remainder_at F d g k w i) (remainder-below F d g laws k w h i)
        (remainder-mapped-at k w h i ∙ divided-of F' d (mapped g) laws' k (mapped w) t i l)))
        (λ t. divides-of F' d (mapped g) laws' k (mapped w) (λ i l.
        sym (remainder-mapped-at k w h i) ∙ ap image (divided-of F d g laws k w t i l) ∙ image_zero laws laws' M))

    -- ---- the generator of a cyclic code

    divides-unity-mapped : (n : ℕ) → divides F' d (mapped g) (suc n) (unity n) ≡ divides F d g (suc n) (unity n)
    divides-unity-mapped n =
        ap (divides F' d (mapped g) (suc n)) (fun_ext (λ i. sym (unity-mapped n i)))
        ∙ divides-mapped (suc n) (unity n) (λ i. le_trans (unity_le n i) one_below)

    pub generator-mapped : (n : ℕ) → Generator F n d g → Generator F' n d (mapped g)
    generator-mapped n G =
        record {
          degree_pos = G.degree_pos;
          degree_lt = G.degree_lt;
          symbols = mapped_below g hg;
          monic = ap image G.monic ∙ image_one;
          above = λ i l. ap image (G.above i l) ∙ image_zero laws laws' M;
          divides_unity = subst T (sym (divides-unity-mapped n)) G.divides_unity;
        }

    pub generator-of-mapped : (n : ℕ) → Generator F' n d (mapped g) → Generator F n d g
    generator-of-mapped n G =
        record {
          degree_pos = G.degree_pos;
          degree_lt = G.degree_lt;
          symbols = hg;
          monic = image_apart laws laws' M (g d) 1 (hg d) one_below (G.monic ∙ sym image_one);
          above = λ i l. image_null laws laws' M (g i) (hg i) (G.above i l);
          divides_unity = subst T (divides-unity-mapped n) G.divides_unity;
        }

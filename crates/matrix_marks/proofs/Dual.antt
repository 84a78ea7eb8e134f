-- What the terms of a dual word count is what its places count: dividing by a symbol takes its logarithm from the exponent.
-- Assumes nothing.
use mathlib.Core.Path.{◌≡◌, sym, ap, ap₂, ◌∙◌, subst}
use mathlib.Core.Bool.{Bool, not, cond, ◌&&◌}
use mathlib.Core.List.{List}
use Prim.Native.Nat.{ℕ, ◌+◌, ◌%◌, ◌^◌, ◌≤◌, ◌<◌}
use native.Mathlib.Nat.{add-zero, mod-lt}
use native.Mathlib.Decide.{ℕ_discrete}
use native.Mathlib.Omega.{arith}
use borrow.Author.Tests.{eq-eqb, ne_eqb}
use lib.Dec.{eqb}
use Rattle.spec_range.specs.Fold.{indicator}
use Rattle.spec_range.proofs.Fold.{fold_cong}
use Rattle.spec_field.specs.Symbols.{gf}
use Rattle.spec_field.specs.Symbols as symbols
use Rattle.spec_word.specs.Word.{at, nonzero, product}
use Rattle.spec_word.proofs.Product.{Periodic}
use Rattle.word_array.specs.Stored.{place}
use Rattle.word_table.specs.Multiples.{Multiplied}
use Rattle.word_table.proofs.Tables.{multiplied_at}
use Rattle.field_powers.specs.Powers.{power}
use Rattle.field_powers.proofs.Laws.{divided}
use Rattle.matrix_terms.specs.Count.{place_counts, dual_counts}
use Rattle.matrix_terms.specs.Terms.{term, Terms, RowOf, weight_in}
use Rattle.matrix_terms.proofs.Digits.{log_of, place_of}
use Rattle.matrix_marks.specs.Marks.{term_counts}

module _ {stride p n duals l : ℕ} {b : ℕ → ℕ} {terms : List ℕ} (ok : Terms stride p n duals terms) (row : RowOf stride p n l b terms) where
  module _ {span : ℕ} {f : ℕ → ℕ} {w : List ℕ} (short : n ≤ span) (per : Periodic n f) (e : Multiplied span p n b f w) where
    below : (m : ℕ) → product (gf p) n b f m < 2 ^ p
    unfolding at
    below m =
        subst (λ (x : ℕ). x < 2 ^ p) (multiplied_at ok.sizes per e m)
        (e.symbols.symbol (m % n) (omega (arith, mod-lt m ok.sizes.n_low)))

    -- a place counts where the product has the power k, times the place's symbol
    place-counts : (a j k : ℕ)
        → cond (nonzero (b a)) (indicator (eqb (at n w (j + a)) (power p (k + place terms (b a))))) 0
        ≡ place_counts p (product (gf p) n b f) (b a) a (power p k) j
    unfolding place_counts
    place-counts a j k = go (ℕ_discrete (b a) 0)
      where
        turned : Bool
        turned = eqb (at n w (j + a)) (power p (k + place terms (b a)))

        divides : Bool
        divides = eqb (symbols.product p (symbols.inverse p (b a)) (product (gf p) n b f (j + a))) (power p k)

        same : 0 < b a → turned ≡ divides
        same pos =
            ap (λ (v : ℕ). eqb v (power p (k + place terms (b a)))) (multiplied_at ok.sizes per e (j + a))
            ∙ sym
            (divided p ok.sizes.p_low ok.sizes.p_high (b a) _ (place terms (b a)) k (below (j + a)) (ok.powers.log_is (b a) pos (row.symbol a)))

        go : Dec (b a ≡ 0) → cond (nonzero (b a)) (indicator turned) 0 ≡ indicator (nonzero (b a) && divides)
        go (yes z) =
            ap (λ (t : Bool). cond (not t) (indicator turned) 0) (eq-eqb (b a) 0 z)
            ∙ sym (ap (λ (t : Bool). indicator (not t && divides)) (eq-eqb (b a) 0 z))
        go (no z) =
            ap (λ (t : Bool). cond (not t) (indicator turned) 0) (ne_eqb (b a) 0 z) ∙ ap indicator (same (omega arith))
            ∙ sym (ap (λ (t : Bool). indicator (not t && divides)) (ne_eqb (b a) 0 z))

    -- the terms count what the dual word counts
    pub terms-count : (k j : ℕ) → term_counts stride p (at n w) (term n terms l) (weight_in terms) k j ≡ dual_counts p n b f (power p k) j
    unfolding term_counts dual_counts
    terms-count k j =
        fold_cong ◌+◌ 0 (weight_in terms) (λ i a.
        ap₂ (λ (a c : ℕ). indicator (eqb (at n w (j + a)) (power p (k + c))))
        (place_of ok.fits row.turns_of i a) (log_of ok.fits row.turns_of i a))
        ∙ row.turns_of.places.folds ◌+◌ 0 add-zero (λ a. indicator (eqb (at n w (j + a)) (power p (k + place terms (b a)))))
        ∙ fold_cong ◌+◌ 0 n (λ a _. place-counts a j k)

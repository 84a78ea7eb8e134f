-- The list of nonzero places as the loop has it after h of n places: place h is written where the next one goes, and counts where b is not zero there.
-- Assumes nothing.
use mathlib.Core.Path.{◌≡◌, refl, sym, ap, ap₂, ◌∙◌, subst}
use mathlib.Core.Bool.{Bool, true, false, cond}
use mathlib.Core.List.{List}
use mathlib.Core.Logic.{⊎_elim}
use Prim.Native.Nat.{ℕ, ◌+◌, ◌≤◌, ◌<◌, zero-le}
use native.Mathlib.Nat.{add-zero, not-suc-le-zero, ne_of_lt, eq-or-lt_of_le, le_of_suc-le-suc}
use native.Mathlib.Numerals.{add-one}
use native.Mathlib.Omega.{arith}
use lib.ListN.{length, set, replicate, length-set, length-replicate}
use lib.Seq.{get_or-set_same, get_or-set_other}
use mir.Syntax.{w64}
use mir.Val.{bool_byte, Fits}
use Rattle.spec_range.specs.Fold.{fold}
use Rattle.spec_range.proofs.Fold.{fold_cong}
use Rattle.spec_range.proofs.Loop.{fold_none, fold_more}
use Rattle.spec_word.specs.Word.{nonzero}
use Rattle.word_array.specs.Stored.{place}

pub record Listing (n : ℕ) (b : ℕ → ℕ) (places : List ℕ) (count h : ℕ) : Type 0 where
  pub long : length places ≡ n
  pub within : h ≤ n
  pub count_le : count ≤ h
  pub place_lt : (i : ℕ) → i < count → place places i < h
  pub folds : (op : ℕ → ℕ → ℕ) (e : ℕ) → ((x : ℕ) → op x e ≡ x) → (f : ℕ → ℕ)
      → fold op e count (λ i. f (place places i)) ≡ fold op e h (λ h. cond (nonzero (b h)) (f h) e)

-- before the first place nothing is listed
pub listing_none : (n : ℕ) (b : ℕ → ℕ) → Listing n b (replicate n 0) 0 0
listing_none n b =
    record {
      long = length-replicate n 0;
      within = zero-le;
      count_le = zero-le;
      place_lt = λ i l. absurd (not-suc-le-zero l);
      folds = λ op e unit f. fold_none op e _ ∙ sym (fold_none op e _);
    }

module _ {n : ℕ} {b : ℕ → ℕ} {places : List ℕ} {count h : ℕ} (s : Listing n b places count h) where
  pub listing_fits : h < n → Fits w64 n → (t : Bool) → Fits w64 (count + bool_byte t)
  listing_fits l f true = omega (arith, s.count_le)
  listing_fits l f false = omega (arith, s.count_le)

  -- after the last place: a fold over the list is one over all places of any word that has the same symbols below n
  pub listing_end : n ≤ h → {b' : ℕ → ℕ} → ((j : ℕ) → j < n → b j ≡ b' j) → (op : ℕ → ℕ → ℕ) (e : ℕ) → ((x : ℕ) → op x e ≡ x) → (f : ℕ → ℕ)
      → fold op e count (λ i. f (place places i)) ≡ fold op e n (λ h. cond (nonzero (b' h)) (f h) e)
  listing_end l same op u unit f =
      let e : h ≡ n = omega (arith, s.within) in
      s.folds op u unit f ∙ ap (λ (m : ℕ). fold op u m (λ h. cond (nonzero (b h)) (f h) u)) e
      ∙ fold_cong op u n (λ j d. ap (λ (x : ℕ). cond (nonzero x) (f j) u) (same j d))

  module _ (l : h < n) where
    free : count < length places
    free = omega (arith, s.count_le, s.long)

    abbrev written : List ℕ
    written = set places count h

    kept : (i : ℕ) → i < count → place written i ≡ place places i
    kept i d = get_or-set_other places count i h 0 (ne_of_lt d)

    -- the place counts
    taken : nonzero (b h) ≡ true → Listing n b written (count + 1) (h + 1)
    taken t =
        record {
          long = length-set places count h ∙ s.long;
          within = omega arith;
          count_le = omega (arith, s.count_le);
          place_lt = λ i d. ⊎_elim
              (λ q. subst (λ (m : ℕ). place written m < h + 1) (sym q) (subst (λ (x : ℕ). x < h + 1) (sym (get_or-set_same places count h 0 free)) (omega arith)))
              (λ d. subst (λ (x : ℕ). x < h + 1) (sym (kept i d)) (omega (arith, s.place_lt i d)))
              (eq-or-lt_of_le (le_of_suc-le-suc (subst (λ (m : ℕ). i < m) (add-one count) d)));
          folds = λ op e unit f.
              fold_more op e count _
              ∙ ap₂ op
              (fold_cong op e count (λ i d. ap f (kept i d)) ∙ s.folds op e unit f)
              (ap f (get_or-set_same places count h 0 free) ∙ sym (ap (λ (t : Bool). cond t (f h) e) t))
              ∙ sym (fold_more op e h _);
        }

    -- it does not, and is written over or beyond the list
    left : nonzero (b h) ≡ false → Listing n b written count (h + 1)
    left t =
        record {
          long = length-set places count h ∙ s.long;
          within = omega arith;
          count_le = omega (arith, s.count_le);
          place_lt = λ i d. subst (λ (x : ℕ). x < h + 1) (sym (kept i d)) (omega (arith, s.place_lt i d));
          folds = λ op e unit f.
              fold_cong op e count (λ i d. ap f (kept i d)) ∙ s.folds op e unit f
              ∙ sym (fold_more op e h _ ∙ ap (op (fold op e h (λ h. cond (nonzero (b h)) (f h) e))) (ap (λ (t : Bool). cond t (f h) e) t)
              ∙ unit (fold op e h (λ h. cond (nonzero (b h)) (f h) e)));
        }

    pub listing-more : Listing n b (set places count h) (count + bool_byte (nonzero (b h))) (h + 1)
    listing-more = go (nonzero (b h)) refl
      where
        go : (t : Bool) → nonzero (b h) ≡ t → Listing n b written (count + bool_byte t) (h + 1)
        go true e = taken e
        go false e = subst (λ (m : ℕ). Listing n b written m (h + 1)) (sym (add-zero count)) (left e)

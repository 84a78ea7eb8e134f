-- Offsets counted: four counters raised one after another, twice four, and eight after eight.
-- Assumes nothing.
use mathlib.Core.Path.{◌≡◌, refl, sym, ap, ◌∙◌, subst}
use mathlib.Core.Bool.{Bool, true, false}
use mathlib.Core.List.{List}
use Prim.Native.Nat.{ℕ, ◌+◌, ◌≤◌, ◌<◌}
use native.Mathlib.Nat.{add-zero, add_assoc}
use native.Mathlib.Omega.{arith}
use lib.Dec.{eqb}
use lib.ListN.{length}
use Rattle.spec_range.specs.Fold.{fold, total, indicator}
use Rattle.spec_range.proofs.Fold.{fold_cong, fold-parts, sums}
use Rattle.spec_range.proofs.Count.{count_le}
use Rattle.word_array.specs.Stored.{place}
use Rattle.matrix_terms.specs.Count.{raised}
use Rattle.matrix_terms.proofs.Raised.{raised_long, raised_same, raised_twice, raised_most, Adding, adding_long}
use Rattle.matrix_scatter.specs.Scatter.{Four, four_adds, Within, cell_adds}

-- m is m₀ with f added, at most t to each cell
pub record Up (m₀ : List ℕ) (f : ℕ → ℕ) (t : ℕ) (m : List ℕ) : Type 0 where
  pub added : m ≡ raised m₀ f
  pub few : (k : ℕ) → f k ≤ t

one_le : (x k : ℕ) → indicator (eqb x k) ≤ 1
one_le x k = go (eqb x k)
  where
    go : (t : Bool) → indicator t ≤ 1
    go true = omega arith
    go false = omega arith

-- one counter is raised
pub up_one : {m₀ m : List ℕ} (x : ℕ) → m ≡ raised m₀ (λ k. indicator (eqb x k)) → Up m₀ (λ k. indicator (eqb x k)) 1 m
up_one x e = record { added = e; few = one_le x }

module _ {m₀ m : List ℕ} {f : ℕ → ℕ} {t : ℕ} (u : Up m₀ f t m) where
  -- one more
  pub up_more : {m' : List ℕ} (x : ℕ) → m' ≡ raised m (λ k. indicator (eqb x k)) → Up m₀ (λ k. f k + indicator (eqb x k)) (t + 1) m'
  up_more {m'} x e = record { added = raised_twice m₀ m f u.added m' _ e; few = λ k. omega (arith, u.few k, one_le x k) }

  -- the length stays, and each cell has room left
  pub up_in : (x : ℕ) → x < length m₀ → x < length m
  up_in x l = omega (arith, raised_long m₀ m f u.added)

  pub up_most : {b : ℕ} (c : ℕ) → ((k : ℕ) → place m₀ k ≤ b) → b + t ≤ c → (k : ℕ) → place m k ≤ c
  up_most c room l = raised_most m₀ m f u.added t c room u.few l

-- four are raised
pub up_four : {m₀ m : List ℕ} (x₀ x₁ x₂ x₃ : ℕ) → m ≡ raised m₀ (four_adds x₀ x₁ x₂ x₃) → Up m₀ (four_adds x₀ x₁ x₂ x₃) 4 m
unfolding four_adds
up_four x₀ x₁ x₂ x₃ e = record { added = e; few = λ k. omega (arith, one_le x₀ k, one_le x₁ k, one_le x₂ k, one_le x₃ k) }

-- what three raises and a fourth add
pub four_added : (m₀ : List ℕ) {m : List ℕ} (x₀ x₁ x₂ x₃ : ℕ)
    → m ≡ raised m₀ (λ k. indicator (eqb x₀ k) + indicator (eqb x₁ k) + indicator (eqb x₂ k) + indicator (eqb x₃ k)) → m ≡ raised m₀ (four_adds x₀ x₁ x₂ x₃)
unfolding four_adds
four_added m₀ x₀ x₁ x₂ x₃ e = e

-- eight offsets, as two times four
module _ {cells : List ℕ} {h base : ℕ} {m : List ℕ} (ok : Within cells h base 8 m 65500) where
  -- a counter is there
  inside-at : (z : ℕ) {x : ℕ} → z < 8 → x ≡ h + z → base + place cells x < length m
  inside-at z l e = subst (λ (x : ℕ). base + place cells x < length m) (sym e) (ok.inside z l)

  -- the first four can be raised
  pub low_four : Four (base + place cells h) (base + place cells (h + 1)) (base + place cells (h + 2)) (base + place cells (h + 3)) m
  low_four =
      record {
        in₀ = inside-at 0 (omega arith) (omega arith);
        in₁ = inside-at 1 (omega arith) refl;
        in₂ = inside-at 2 (omega arith) refl;
        in₃ = inside-at 3 (omega arith) refl;
        room = λ k. omega (arith, ok.room k);
      }

  module _ {m₁ : List ℕ}
      (e : m₁ ≡ raised m (four_adds (base + place cells h) (base + place cells (h + 1)) (base + place cells (h + 2)) (base + place cells (h + 3)))) where
    -- and then the others
    pub high-four : Four (base + place cells (h + 4)) (base + place cells (h + 5)) (base + place cells (h + 6)) (base + place cells (h + 7)) m₁
    high-four =
        let u = up_four _ _ _ _ e in
        record {
          in₀ = up_in u _ (inside-at 4 (omega arith) refl);
          in₁ = up_in u _ (inside-at 5 (omega arith) refl);
          in₂ = up_in u _ (inside-at 6 (omega arith) refl);
          in₃ = up_in u _ (inside-at 7 (omega arith) refl);
          room = up_most u 65530 ok.room (omega arith);
        }

    -- which counts all eight
    pub eight-end : {m₂ : List ℕ}
        → m₂ ≡ raised m₁ (four_adds (base + place cells (h + 4)) (base + place cells (h + 5)) (base + place cells (h + 6)) (base + place cells (h + 7)))
        → m₂ ≡ raised m (λ k. total 8 (cell_adds cells h base k))
    unfolding four_adds cell_adds fold
    eight-end {m₂} d =
        raised_twice m m₁ _ e m₂ _ d
        ∙ raised_same m (λ k _. omega (arith, ap (λ (x : ℕ). indicator (eqb (base + place cells x) k)) (sym (add-zero h))))

-- a cell is raised at most once by an offset
cells_le : (cells : List ℕ) (h base count k : ℕ) → total count (cell_adds cells h base k) ≤ count
unfolding cell_adds
cells_le cells h base count k = count_le count (λ z. eqb (base + place cells (h + z)) k)

module _ {cells : List ℕ} {h base count most : ℕ} {counts₀ counts : List ℕ} {z : ℕ}
    (ok : Within cells h base count counts₀ most) (a : Adding count (cell_adds cells h base) counts₀ counts z) where
  -- what is counted fits
  pub counted_most : (top : ℕ) → most + count ≤ top → (k : ℕ) → place counts k ≤ top
  counted_most top l = raised_most counts₀ counts _ a.added z top ok.room (λ k. cells_le cells h base z k) (omega (arith, a.within))

  -- the next eight can be counted
  pub eight_within : z + 8 ≤ count → most + count ≤ 65500 → Within cells (h + z) base 8 counts 65500
  eight_within l b =
      record {
        long = omega (arith, ok.long);
        inside = λ j d. omega (arith, ap (place cells) (add_assoc h z j), ok.inside (z + j) (omega arith), adding_long a);
        room = counted_most 65500 b;
      }

  -- and are counted
  pub eight_more : z + 8 ≤ count → (counts' : List ℕ) → counts' ≡ raised counts (λ k. total 8 (cell_adds cells (h + z) base k))
      → Adding count (cell_adds cells h base) counts₀ counts' (z + 8)
  unfolding cell_adds
  eight_more l counts' e =
      record {
        within = l;
        added = raised_twice counts₀ counts _ a.added counts' _ e
            ∙ raised_same counts₀ (λ k _.
            ap (λ (x : ℕ). total z (cell_adds cells h base k) + x)
            (fold_cong ◌+◌ 0 8 (λ i _. ap (λ (x : ℕ). indicator (eqb (base + place cells x) k)) (add_assoc h z i)))
            ∙ sym (fold-parts ◌+◌ 0 sums z 8 (cell_adds cells h base k)));
      }

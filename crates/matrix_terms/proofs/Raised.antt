-- Numbers added to the places of a list, once and again: what a loop keeps that adds one term after another.
-- Assumes nothing.
use mathlib.Core.Path.{◌≡◌, refl, sym, ap, ◌∙◌, subst}
use mathlib.Core.Bool.{Bool, cond}
use mathlib.Core.List.{List}
use Prim.Native.Nat.{ℕ, ◌+◌, ◌≤◌, ◌<◌, zero-le}
use native.Mathlib.Nat.{add-zero, add_assoc, le_of_eq, le_trans}
use native.Mathlib.Decide.{dec_lt, ℕ_discrete}
use native.Mathlib.Omega.{arith}
use borrow.Author.Tests.{eq-eqb, ne_eqb}
use lib.Dec.{eqb}
use lib.ListN.{length, set, length-set, get_or-eq_default}
use lib.Seq.{get_or-set_same, get_or-set_other, ext_get_or}
use Rattle.spec_range.specs.Fold.{total, indicator}
use Rattle.spec_range.proofs.Table.{table-length, table_at, table_same}
use Rattle.spec_range.proofs.Loop.{fold_none, fold_more}
use Rattle.word_array.specs.Stored.{place}
use Rattle.matrix_terms.specs.Count.{raised}

-- the length stays
pub raised-length : (m : List ℕ) (f : ℕ → ℕ) → length (raised m f) ≡ length m
unfolding raised
raised-length m f = table-length (length m) _

-- a number after
pub raised_at : (m : List ℕ) (f : ℕ → ℕ) {k : ℕ} → k < length m → place (raised m f) k ≡ place m k + f k
unfolding raised
raised_at m f l = table_at (length m) _ l

-- by what is added
pub raised_same : (m : List ℕ) {f g : ℕ → ℕ} → ((k : ℕ) → k < length m → f k ≡ g k) → raised m f ≡ raised m g
unfolding raised
raised_same m h = table_same (length m) (λ k l. ap (λ (x : ℕ). place m k + x) (h k l))

-- by the cells
pub raised_of : (m m' : List ℕ) (f : ℕ → ℕ) → length m' ≡ length m → ((k : ℕ) → k < length m → place m' k ≡ place m k + f k) → m' ≡ raised m f
raised_of m m' f e h =
    ext_get_or 0 m' (raised m f) (e ∙ sym (raised-length m f)) (λ k l.
    let b : k < length m = subst (λ (x : ℕ). k < x) e l in
    h k b ∙ sym (raised_at m f b))

-- nothing is added
pub raised_none : (m : List ℕ) (f : ℕ → ℕ) → ((k : ℕ) → f k ≡ 0) → m ≡ raised m f
raised_none m f z = raised_of m m f refl (λ k l. sym (ap (λ (x : ℕ). place m k + x) (z k) ∙ add-zero (place m k)))

-- a number is added to one cell
pub raised-cell : (m : List ℕ) (x y : ℕ) → x < length m → set m x (place m x + y) ≡ raised m (λ k. cond (eqb x k) y 0)
raised-cell m x y l = raised_of m _ _ (length-set m x _) (λ k _. go k (ℕ_discrete k x))
  where
    go : (k : ℕ) → Dec (k ≡ x) → place (set m x (place m x + y)) k ≡ place m k + cond (eqb x k) y 0
    go k (yes e) =
        subst (λ (z : ℕ). place (set m x (place m x + y)) z ≡ place m z + cond (eqb x z) y 0) (sym e)
        (get_or-set_same m x _ 0 l ∙ ap (λ (t : Bool). place m x + cond t y 0) (sym (eq-eqb x x refl)))
    go k (no h) =
        get_or-set_other m x k _ 0 h ∙ sym (ap (λ (t : Bool). place m k + cond t y 0) (ne_eqb x k (λ e. h (sym e))) ∙ add-zero (place m k))

-- one cell is counted up
pub raised_one : (m : List ℕ) (x : ℕ) → x < length m → set m x (place m x + 1) ≡ raised m (λ k. indicator (eqb x k))
raised_one m x l = raised-cell m x 1 l

module _ (m₀ m : List ℕ) (f : ℕ → ℕ) (e : m ≡ raised m₀ f) where
  -- the length stays
  pub raised_long : length m ≡ length m₀
  raised_long = ap length e ∙ raised-length m₀ f

  -- added to twice
  pub raised_twice : (m' : List ℕ) (g : ℕ → ℕ) → m' ≡ raised m g → m' ≡ raised m₀ (λ k. f k + g k)
  raised_twice m' g d =
      raised_of m₀ m' _ (ap length d ∙ raised-length m g ∙ raised_long) (λ k l.
      ap (λ (x : List ℕ). place x k) d ∙ raised_at m g (subst (λ (x : ℕ). k < x) (sym raised_long) l)
      ∙ ap (λ (x : List ℕ). place x k + g k) e ∙ ap (λ (x : ℕ). x + g k) (raised_at m₀ f l) ∙ add_assoc (place m₀ k) (f k) (g k))

  -- every number stays at most what it was and what is added
  pub raised_most : {b : ℕ} (t c : ℕ) → ((k : ℕ) → place m₀ k ≤ b) → ((k : ℕ) → f k ≤ t) → b + t ≤ c → (k : ℕ) → place m k ≤ c
  raised_most {b} t c room h l k = go (dec_lt k (length m₀))
    where
      go : Dec (k < length m₀) → place m k ≤ c
      go (yes d) = le_trans (le_of_eq (ap (λ (x : List ℕ). place x k) e ∙ raised_at m₀ f d)) (omega (arith, room k, h k))
      go (no d) = le_trans (le_of_eq (get_or-eq_default m 0 (omega (arith, raised_long)))) zero-le

-- ---- a loop that adds n terms one after another, after i of them

-- the first i terms are added
pub record Adding (n : ℕ) (term : ℕ → ℕ → ℕ) (m₀ m : List ℕ) (i : ℕ) : Type 0 where
  pub within : i ≤ n
  pub added : m ≡ raised m₀ (λ k. total i (term k))

-- before the first term
pub adding_none : (n : ℕ) (term : ℕ → ℕ → ℕ) (m : List ℕ) → Adding n term m m 0
adding_none n term m = record { within = zero-le; added = raised_none m _ (λ k. fold_none ◌+◌ 0 (term k)) }

module _ {n : ℕ} {term : ℕ → ℕ → ℕ} {m₀ m : List ℕ} {i : ℕ} (h : Adding n term m₀ m i) where
  -- the length stays
  pub adding_long : length m ≡ length m₀
  adding_long = raised_long m₀ m _ h.added

  -- one more term
  pub adding_more : (m' : List ℕ) → i < n → m' ≡ raised m (λ k. term k i) → Adding n term m₀ m' (i + 1)
  adding_more m' l e =
      record {
        within = omega arith;
        added = raised_twice m₀ m _ h.added m' _ e ∙ raised_same m₀ (λ k _. sym (fold_more ◌+◌ 0 i (term k)));
      }

  -- after the last
  pub adding_end : n ≤ i → m ≡ raised m₀ (λ k. total n (term k))
  adding_end l = subst (λ (i : ℕ). m ≡ raised m₀ (λ k. total i (term k))) (omega arith) h.added

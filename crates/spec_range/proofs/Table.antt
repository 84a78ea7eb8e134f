-- Reading a list that keeps a function's values, and a test of all of a range.
-- Assumes nothing.
use mathlib.Core.Path.{◌≡◌, refl, sym, ap, ap₂, subst}
use mathlib.Core.Bool.{Bool}
use mathlib.Core.List.{List, ◌∷◌}
use mathlib.Core.Logic.{◌⊎◌, inl, inr}
use Prim.Native.Nat.{ℕ, zero, suc, ◌<◌, suc-le-suc}
use native.Mathlib.Nat.{le_of_suc-le-suc, not-suc-le-zero, zero-lt-suc, eq-or-lt_of_le, le_refl, le_step}
use lib.Dec.{T}
use lib.ListN.{length, get_or}
use Rattle.spec_range.specs.Fold.{fold, all}
use Rattle.spec_range.specs.Table.{table}
use Rattle.spec_range.proofs.Tests.{and_left, and_right, and_both}

pub table-length : (n : ℕ) (f : ℕ → ℕ) → length (table n f) ≡ n
unfolding table
table-length zero f = refl
table-length (suc n) f = ap suc (table-length n (λ i. f (suc i)))

pub table_at : (n : ℕ) (f : ℕ → ℕ) {i : ℕ} → i < n → get_or (table n f) i 0 ≡ f i
unfolding table
table_at zero f l = absurd (not-suc-le-zero l)
table_at (suc n) f {i = zero} l = refl
table_at (suc n) f {i = suc i} l = table_at n (λ i. f (suc i)) (le_of_suc-le-suc l)

pub all-at : (n : ℕ) (p : ℕ → Bool) → T (all n p) → (i : ℕ) → i < n → T (p i)
unfolding fold
all-at zero p t i l = absurd (not-suc-le-zero l)
all-at (suc n) p t i l = go (eq-or-lt_of_le (le_of_suc-le-suc l)) (all-at n p (and_left (all n p) (p n) t) i)
  where
    go : (i ≡ n) ⊎ (i < n) → (i < n → T (p i)) → T (p i)
    go (inl e) ih = subst (λ (k : ℕ). T (p k)) (sym e) (and_right (all n p) (p n) t)
    go (inr k) ih = ih k

pub all_of : (n : ℕ) (p : ℕ → Bool) → ((i : ℕ) → i < n → T (p i)) → T (all n p)
unfolding fold
all_of zero p h = tt
all_of (suc n) p h = and_both (all n p) (p n) (all_of n p (λ i l. h i (le_step l))) (h n (le_refl (suc n)))

pub table_same : (n : ℕ) {f g : ℕ → ℕ} → ((i : ℕ) → i < n → f i ≡ g i) → table n f ≡ table n g
unfolding table
table_same zero h = refl
table_same (suc n) h = ap₂ (λ (x : ℕ) (l : List ℕ). x ∷ l) (h 0 (zero-lt-suc n)) (table_same n (λ i l. h (suc i) (suc-le-suc l)))

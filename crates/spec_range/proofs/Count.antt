-- Counts and sums over a range: a part is at most the sum, and where just one of a range passes a test, a fold over those that pass is its value there.
-- Assumes nothing.
use mathlib.Core.Path.{◌≡◌, refl, sym, ap, ◌∙◌, subst}
use mathlib.Core.Logic.{◌≢◌, ◌⊎◌, inl, inr}
use mathlib.Core.Bool.{Bool, true, false, not, cond}
use Prim.Native.Nat.{ℕ, zero, suc, ◌+◌, ◌*◌, max, ◌≤◌, ◌<◌}
use native.Mathlib.Nat.{le_refl, le_trans, le_of_eq, le_step, le_of_suc-le-suc, not-suc-le-zero, eq-or-lt_of_le, pos_of_ne-zero, suc-mul, mul-zero}
use native.Mathlib.Omega.{arith}
use lib.Dec.{T, eqb, eqb→eq}
use Rattle.spec_range.specs.Fold.{fold, total, indicator, count, largest, all, any}
use Rattle.spec_range.proofs.Tests.{same_test, eq→eqb, not_of, not_at, cond_true}
use Rattle.spec_range.proofs.Fold.{fold_cong, fold-op, fold-pick, sums}
use Rattle.spec_range.proofs.Table.{all-at, all_of}

-- a part of a sum is at most the sum
pub part_le : (n : ℕ) (f : ℕ → ℕ) {i : ℕ} → i < n → f i ≤ total n f
unfolding fold
part_le zero f h = absurd (not-suc-le-zero h)
part_le (suc n) f {i} h = go (eq-or-lt_of_le (le_of_suc-le-suc h)) (λ l. part_le n f l)
  where
    go : (i ≡ n) ⊎ (i < n) → (i < n → f i ≤ total n f) → f i ≤ total n f + f n
    go (inl e) ih = le_trans (le_of_eq (ap f e)) (omega arith)
    go (inr l) ih = le_trans (ih l) (omega arith)

pub fold_le : (n b : ℕ) (f : ℕ → ℕ) → ((i : ℕ) → i < n → f i ≤ b) → total n f ≤ n * b
unfolding fold
fold_le zero b f h = omega arith
fold_le (suc n) b f h = omega (arith, fold_le n b f (λ i l. h i (le_step l)), h n (le_refl (suc n)), suc-mul n b)

-- equal terms
pub total_equal : (n b : ℕ) (f : ℕ → ℕ) → ((i : ℕ) → i < n → f i ≡ b) → total n f ≡ n * b
unfolding fold
total_equal zero b f h = omega arith
total_equal (suc n) b f h = omega (arith, total_equal n b f (λ i l. h i (le_step l)), h n (le_refl (suc n)), suc-mul n b)

indicator_le : (b : Bool) → indicator b ≤ 1
indicator_le true = omega arith
indicator_le false = omega arith

pub count_le : (n : ℕ) (p : ℕ → Bool) → count n p ≤ n
count_le n p = le_trans (fold_le n 1 (λ i. indicator (p i)) (λ i l. indicator_le (p i))) (omega arith)

-- none is counted where every one fails
pub none_counted : (n : ℕ) (p : ℕ → Bool) → eqb (count n p) 0 ≡ all n (λ i. not (p i))
none_counted n p =
    same_test _ _
    (λ t. all_of n _ (λ i l. fails (p i) (le_trans (part_le n (λ i. indicator (p i)) l) (le_of_eq (eqb→eq (count n p) 0 t)))))
    (λ t. eq→eqb (total_equal n 0 _ (λ i l. none (p i) (all-at n _ t i l)) ∙ mul-zero n))
  where
    fails : (b : Bool) → indicator b ≤ 0 → T (not b)
    fails true h = absurd (not-suc-le-zero h)
    fails false h = tt

    none : (b : Bool) → T (not b) → indicator b ≡ 0
    none true t = absurd t
    none false t = refl

-- ---- the one that passes a test

-- one that passes, where the count is not 0
pub count_found : (n : ℕ) (p : ℕ → Bool) → 0 < count n p → (k : ℕ) × (k < n) × T (p k)
unfolding fold
count_found zero p h = absurd (not-suc-le-zero h)
count_found (suc n) p h = go (p n) (λ b. b) (λ l. count_found n p l) h
  where
    go : (b : Bool) → (T b → T (p n)) → (0 < count n p → (k : ℕ) × (k < n) × T (p k)) → 0 < count n p + indicator b → (k : ℕ) × (k < suc n) × T (p k)
    go true at_n ih h = (n, le_refl (suc n), at_n tt)
    go false at_n ih h = let found = ih (omega arith) in (found.0, le_step found.1, found.2)

-- a test of any is passed exactly if there is one that passes
pub any_found : (n : ℕ) (p : ℕ → Bool) → T (any n p) → (k : ℕ) × (k < n) × T (p k)
any_found n p t =
    count_found n p (pos_of_ne-zero (λ e. not_at (all n (λ i. not (p i))) t (subst T (none_counted n p) (eq→eqb e))))

pub any_of : (n : ℕ) (p : ℕ → Bool) (k : ℕ) → k < n → T (p k) → T (any n p)
any_of n p k l t = not_of (all n (λ i. not (p i))) (λ a. not_at (p k) (all-at n (λ i. not (p i)) a k l) t)

-- where just one of a range passes, it is the one found
pub count_one : (n : ℕ) (p : ℕ → Bool) → count n p ≡ 1 → {k : ℕ} → k < n → T (p k) → (i : ℕ) → i < n → p i ≡ eqb i k
count_one n p one {k} l t i h = go (p i) (eqb i k) (none i h) (λ e. subst (λ (x : ℕ). T (p x)) (sym (eqb→eq i k e)) t)
  where
    others : ℕ → ℕ
    others i = cond (eqb i k) 0 (indicator (p i))

    split : (i : ℕ) → indicator (p i) ≡ cond (eqb i k) (indicator (p i)) 0 + others i
    split i = go (eqb i k) (indicator (p i))
      where
        go : (b : Bool) (x : ℕ) → x ≡ cond b x 0 + cond b 0 x
        go true x = omega arith
        go false x = omega arith

    sum : 1 ≡ 1 + total n others
    sum =
        sym one ∙ fold_cong ◌+◌ 0 n (λ i h. split i) ∙ fold-op ◌+◌ 0 sums n (λ i. cond (eqb i k) (indicator (p i)) 0) others
        ∙ ap (λ (x : ℕ). x + total n others) (fold-pick ◌+◌ 0 sums n k l (λ i. indicator (p i)) ∙ cond_true (p k) 1 0 t)

    none : (i : ℕ) → i < n → others i ≡ 0
    none i h = omega (arith, sum, part_le n others h)

    go : (a b : Bool) → cond b 0 (indicator a) ≡ 0 → (T b → T a) → a ≡ b
    go true true z s = refl
    go true false z s = absurd (one≢zero z)
      where
        one≢zero : ◌≢◌ {A = ℕ} 1 0
        one≢zero = omega arith
    go false true z s = absurd (s tt)
    go false false z s = refl

-- and a fold over those that pass is a fold over that one
pub fold_only : {A : Type 0} (op : A → A → A) (e : A) (f : ℕ → A) (n : ℕ) (p : ℕ → Bool) → count n p ≡ 1
    → {k : ℕ} → k < n → T (p k) → fold op e n (λ i. cond (p i) (f i) e) ≡ fold op e n (λ i. cond (eqb i k) (f i) e)
fold_only op e f n p one l t = fold_cong op e n (λ i h. ap (λ (b : Bool). cond b (f i) e) (count_one n p one l t i h))

-- ---- the largest of a range

pub le_largest : (n : ℕ) (f : ℕ → ℕ) {i : ℕ} → i < n → f i ≤ largest n f
unfolding fold
le_largest zero f h = absurd (not-suc-le-zero h)
le_largest (suc n) f {i} h = go (eq-or-lt_of_le (le_of_suc-le-suc h)) (λ l. le_largest n f l)
  where
    go : (i ≡ n) ⊎ (i < n) → (i < n → f i ≤ largest n f) → f i ≤ max (largest n f) (f n)
    go (inl e) ih = le_trans (le_of_eq (ap f e)) (omega arith)
    go (inr l) ih = le_trans (ih l) (omega arith)

pub largest_lt : (n b : ℕ) (f : ℕ → ℕ) → 0 < b → ((i : ℕ) → i < n → f i < b) → largest n f < b
unfolding fold
largest_lt zero b f pos h = pos
largest_lt (suc n) b f pos h =
    let low : largest n f < b = largest_lt n b f pos (λ i l. h i (le_step l)) in
    let last : f n < b = h n (le_refl (suc n)) in
    omega arith

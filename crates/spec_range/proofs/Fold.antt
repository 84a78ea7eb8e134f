-- The laws of a fold over a range: for sums in the field, for counts, for largest values and for tests of all alike.
-- Assumes nothing.
use mathlib.Core.Path.{◌≡◌, refl, sym, ap, ap₂, ◌∙◌}
use mathlib.Core.Logic.{◌⊎◌, inl, inr}
use mathlib.Core.Bool.{Bool, true, false, cond, ◌&&◌}
use Prim.Native.Nat.{ℕ, zero, suc, pred, ◌+◌, max, ◌≤◌, ◌<◌}
use native.Mathlib.Nat.{le_refl, le_step, le_of_suc-le-suc, not-suc-le-zero, eq-or-lt_of_le, ne_of_gt, ne_of_lt, suc-ne-zero, add-zero, zero-add, add-suc, suc-add, add_comm, add_assoc}
use native.Mathlib.Decide.{le_ind}
use native.Mathlib.Omega.{arith}
use lib.Dec.{eqb}
use borrow.Author.Tests.{eq-eqb, ne_eqb}
use Rattle.spec_range.specs.Fold.{fold}
use Rattle.spec_range.proofs.Tests.{same_eqb}

module _ {A : Type 0} (op : A → A → A) (e : A) where
  pub fold_cong : (n : ℕ) {f g : ℕ → A} → ((i : ℕ) → i < n → f i ≡ g i) → fold op e n f ≡ fold op e n g
  unfolding fold
  fold_cong zero h = refl
  fold_cong (suc n) h = ap₂ op (fold_cong n (λ i l. h i (le_step l))) (h n (le_refl (suc n)))

  pub record CommutativeMonoid : Type 0 where
    pub assoc : (a b c : A) → op (op a b) c ≡ op a (op b c)
    pub comm : (a b : A) → op a b ≡ op b a
    pub unit : (a : A) → op a e ≡ a

  module _ (M : CommutativeMonoid) where
    open M use {assoc, comm, unit}

    pub unit_left : (a : A) → op e a ≡ a
    unit_left a = comm e a ∙ unit a

    pub interchange : (a b c d : A) → op (op a b) (op c d) ≡ op (op a c) (op b d)
    interchange a b c d =
        assoc a b (op c d)
        ∙ ap (op a) (sym (assoc b c d) ∙ ap (λ (x : A). op x d) (comm b c) ∙ assoc c b d)
        ∙ sym (assoc a c (op b d))

    -- a range of units
    pub fold-unit : (n : ℕ) (f : ℕ → A) → ((i : ℕ) → i < n → f i ≡ e) → fold op e n f ≡ e
    unfolding fold
    fold-unit zero f h = refl
    fold-unit (suc n) f h = ap₂ op (fold-unit n f (λ i l. h i (le_step l))) (h n (le_refl (suc n))) ∙ unit e

    -- units at the end
    pub fold-short : (k m : ℕ) → k ≤ m → (f : ℕ → A) → ((i : ℕ) → k ≤ i → i < m → f i ≡ e) → fold op e m f ≡ fold op e k f
    unfolding fold
    fold-short k m l f =
        le_ind (λ (m : ℕ). ((i : ℕ) → k ≤ i → i < m → f i ≡ e) → fold op e m f ≡ fold op e k f) (λ h. refl)
        (λ m l ih h. ap (op (fold op e m f)) (h m l (le_refl _)) ∙ unit (fold op e m f) ∙ ih (λ i a b. h i a (le_step b))) m l

    pub fold-extend : (k m : ℕ) → k ≤ m → (f : ℕ → A) → ((i : ℕ) → k ≤ i → f i ≡ e) → fold op e m f ≡ fold op e k f
    fold-extend k m l f h = fold-short k m l f (λ i a b. h i a)

    pub fold-op : (n : ℕ) (f g : ℕ → A) → fold op e n (λ i. op (f i) (g i)) ≡ op (fold op e n f) (fold op e n g)
    unfolding fold
    fold-op zero f g = sym (unit e)
    fold-op (suc n) f g =
        ap (λ (x : A). op x (op (f n) (g n))) (fold-op n f g) ∙ interchange (fold op e n f) (fold op e n g) (f n) (g n)

    -- the first one taken out, where the definition takes the last
    pub fold_head : (n : ℕ) (f : ℕ → A) → fold op e (suc n) f ≡ op (f 0) (fold op e n (λ i. f (suc i)))
    unfolding fold
    fold_head zero f = comm e (f 0)
    fold_head (suc n) f =
        ap (λ (x : A). op x (f (suc n))) (fold_head n f) ∙ assoc (f 0) (fold op e n (λ i. f (suc i))) (f (suc n))

    -- a range in two parts
    pub fold-parts : (m k : ℕ) (f : ℕ → A) → fold op e (m + k) f ≡ op (fold op e m f) (fold op e k (λ i. f (m + i)))
    unfolding fold
    fold-parts m zero f = ap (λ (n : ℕ). fold op e n f) (add-zero m) ∙ sym (unit (fold op e m f))
    fold-parts m (suc k) f =
        ap (λ (n : ℕ). fold op e n f) (add-suc m k)
        ∙ ap (λ (x : A). op x (f (m + k))) (fold-parts m k f) ∙ assoc (fold op e m f) (fold op e k (λ i. f (m + i))) (f (m + k))

    -- a function of period n may be shifted
    rotate-one : (n : ℕ) (f : ℕ → A) → f n ≡ f 0 → fold op e n (λ i. f (suc i)) ≡ fold op e n f
    unfolding fold
    rotate-one zero f p = refl
    rotate-one (suc n) f p =
        ap (op (fold op e n (λ i. f (suc i)))) p ∙ comm (fold op e n (λ i. f (suc i))) (f 0) ∙ sym (fold_head n f)

    pub fold-rotate : (n t : ℕ) (f : ℕ → A) → ((j : ℕ) → f (j + n) ≡ f j) → fold op e n (λ i. f (i + t)) ≡ fold op e n f
    fold-rotate n zero f p = fold_cong n (λ i l. ap f (add-zero i))
    fold-rotate n (suc t) f p =
        fold_cong n (λ i l. ap f (add-suc i t ∙ sym (suc-add i t)))
        ∙ rotate-one n (λ i. f (i + t)) (ap f (add_comm n t) ∙ p t ∙ ap f (sym (zero-add t)))
        ∙ fold-rotate n t f p

    pub fold-swap : (n m : ℕ) (f : ℕ → ℕ → A)
        → fold op e n (λ i. fold op e m (λ j. f i j)) ≡ fold op e m (λ j. fold op e n (λ i. f i j))
    unfolding fold
    fold-swap zero m f = sym (fold-unit m (λ j. e) (λ i l. refl))
    fold-swap (suc n) m f =
        ap (λ (x : A). op x (fold op e m (f n))) (fold-swap n m f)
        ∙ sym (fold-op m (λ j. fold op e n (λ i. f i j)) (f n))

    -- one value of all
    pub fold-pick : (n k : ℕ) → k < n → (f : ℕ → A) → fold op e n (λ i. cond (eqb i k) (f i) e) ≡ f k
    unfolding fold
    fold-pick zero k h f = absurd (not-suc-le-zero h)
    fold-pick (suc n) k h f = go (eq-or-lt_of_le (le_of_suc-le-suc h)) (fold-pick n k)
      where
        masked : ℕ → A
        masked i = cond (eqb i k) (f i) e

        go : (k ≡ n) ⊎ (k < n) → (k < n → (f : ℕ → A) → fold op e n (λ i. cond (eqb i k) (f i) e) ≡ f k)
            → op (fold op e n masked) (masked n) ≡ f k
        go (inl p) ih =
            ap₂ op
            (fold-unit n masked (λ i l. ap (λ (b : Bool). cond b (f i) e) (ne_eqb i k (ne_of_lt (omega arith)))))
            (ap (λ (b : Bool). cond b (f n) e) (eq-eqb n k (sym p)))
            ∙ unit_left (f n) ∙ ap f (sym p)
        go (inr l) ih =
            ap (op (fold op e n masked)) (ap (λ (b : Bool). cond b (f n) e) (ne_eqb n k (ne_of_gt l)))
            ∙ unit (fold op e n masked) ∙ ih l f

    -- a range may be gone through in another order: σ permutes it, with the inverse τ
    pub fold-permute : (n : ℕ) (σ τ : ℕ → ℕ)
        → ((i : ℕ) → i < n → σ i < n) → ((i : ℕ) → i < n → τ i < n)
        → ((i : ℕ) → i < n → τ (σ i) ≡ i) → ((i : ℕ) → i < n → σ (τ i) ≡ i)
        → (f : ℕ → A) → fold op e n (λ i. f (σ i)) ≡ fold op e n f
    fold-permute n σ τ σ-lt τ-lt τσ στ f =
        fold_cong n (λ k l. sym (fold-pick n (σ k) (σ-lt k l) f))
        ∙ sym (fold-swap n n (λ i k. cond (eqb i (σ k)) (f i) e))
        ∙ fold_cong n (λ i l.
        fold_cong n (λ k l'. ap (λ (b : Bool). cond b (f i) e)
        (same_eqb (λ p. sym (τσ k l') ∙ ap τ (sym p)) (λ p. sym (στ i l) ∙ ap σ (sym p))))
        ∙ fold-pick n (τ i) (τ-lt i l) (λ k. f i))

    -- the same over 1, .., n - 1, where σ keeps 0
    pub fold-permute-rows : (n : ℕ) (σ τ : ℕ → ℕ) → 0 < n
        → ((i : ℕ) → i < n → σ i < n) → ((i : ℕ) → i < n → τ i < n)
        → ((i : ℕ) → i < n → τ (σ i) ≡ i) → ((i : ℕ) → i < n → σ (τ i) ≡ i) → σ 0 ≡ 0
        → (f : ℕ → A) → fold op e (pred n) (λ k. f (σ (suc k))) ≡ fold op e (pred n) (λ k. f (suc k))
    fold-permute-rows zero σ τ h σ-lt τ-lt τσ στ p f = absurd (not-suc-le-zero h)
    fold-permute-rows (suc n) σ τ h σ-lt τ-lt τσ στ p f =
        sym (rows (λ i. f (σ i)))
        ∙ fold_cong (suc n) (λ i l. ap (λ (b : Bool). cond b e (f (σ i)))
        (same_eqb (λ s. ap σ s ∙ p) (λ s. sym (τσ i l) ∙ ap τ (s ∙ sym p) ∙ τσ 0 h)))
        ∙ fold-permute (suc n) σ τ σ-lt τ-lt τσ στ (λ i. cond (eqb i 0) e (f i))
        ∙ rows f
      where
        rows : (f : ℕ → A) → fold op e (suc n) (λ i. cond (eqb i 0) e (f i)) ≡ fold op e n (λ k. f (suc k))
        rows f =
            fold_head n (λ i. cond (eqb i 0) e (f i))
            ∙ unit_left (fold op e n (λ k. cond (eqb (suc k) 0) e (f (suc k))))
            ∙ fold_cong n (λ k l. ap (λ (b : Bool). cond b e (f (suc k))) (ne_eqb (suc k) 0 (suc-ne-zero k)))

-- ---- values that the operation keeps, and a map that goes through it

module _ {A : Type 0} (op : A → A → A) (e : A) (Kept : A → Type 0) (unit : Kept e) (keeps : (a b : A) → Kept a → Kept b → Kept (op a b)) where
  pub fold_kept : (n : ℕ) (f : ℕ → A) → ((i : ℕ) → i < n → Kept (f i)) → Kept (fold op e n f)
  unfolding fold
  fold_kept zero f h = unit
  fold_kept (suc n) f h = keeps (fold op e n f) (f n) (fold_kept n f (λ i l. h i (le_step l))) (h n (le_refl (suc n)))

  -- what goes through the operation goes through a fold, into another operation too
  pub fold-map : {B : Type 0} (op' : B → B → B) (e' : B) (φ : A → B) → φ e ≡ e' → ((a b : A) → Kept a → Kept b → φ (op a b) ≡ op' (φ a) (φ b))
      → (n : ℕ) (f : ℕ → A) → ((i : ℕ) → i < n → Kept (f i)) → φ (fold op e n f) ≡ fold op' e' n (λ i. φ (f i))
  unfolding fold
  fold-map op' e' φ z m zero f h = z
  fold-map {B} op' e' φ z m (suc n) f h =
      m (fold op e n f) (f n) (fold_kept n f (λ i l. h i (le_step l))) (h n (le_refl (suc n)))
      ∙ ap (λ (x : B). op' x (φ (f n))) (fold-map op' e' φ z m n f (λ i l. h i (le_step l)))

-- ---- the operations folded

pub sums : CommutativeMonoid ◌+◌ 0
sums = record { assoc = add_assoc; comm = add_comm; unit = add-zero }

pub maxima : CommutativeMonoid max 0
maxima = record { assoc = λ a b c. omega arith; comm = λ a b. omega arith; unit = λ a. omega arith }

pub tests : CommutativeMonoid ◌&&◌ true
tests = record { assoc = and_assoc; comm = and_comm; unit = and-true }
  where
    and_assoc : (a b c : Bool) → a && b && c ≡ a && (b && c)
    and_assoc true b c = refl
    and_assoc false b c = refl

    and_comm : (a b : Bool) → a && b ≡ b && a
    and_comm true true = refl
    and_comm true false = refl
    and_comm false true = refl
    and_comm false false = refl

    and-true : (a : Bool) → a && true ≡ a
    and-true true = refl
    and-true false = refl

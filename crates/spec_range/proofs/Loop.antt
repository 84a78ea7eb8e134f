-- A loop's turn, in the code's form n + 1: what a loop gathers is a fold, and what it stores place by place is a table.
-- Assumes nothing.
use mathlib.Core.Path.{◌≡◌, refl, sym, ap, ap₂, ◌∙◌, subst}
use mathlib.Core.Bool.{Bool, true, false, cond, ◌&&◌}
use mathlib.Core.Logic.{⊎_elim}
use mathlib.Core.List.{List}
use Prim.Native.Nat.{ℕ, zero, suc, ◌+◌, ◌≤◌, ◌<◌, zero-le}
use native.Mathlib.Nat.{le_trans, le_of_eq, eq-or-lt_of_le, le_of_suc-le-suc, not-suc-le-zero, lt_irrefl}
use native.Mathlib.Numerals.{add-one}
use native.Mathlib.Decide.{dec_lt}
use native.Mathlib.Omega.{arith}
use borrow.Author.Tests.{lt-ltb, le-ltb}
use lib.Dec.{T, ltb}
use lib.ListN.{length, get_or, set, replicate, length-set, length-replicate, get_or-eq_default}
use lib.Seq.{get_or-set_same, get_or-set_other, ext_get_or}
use Rattle.spec_range.specs.Fold.{fold, all}
use Rattle.spec_range.specs.Table.{table, padded}
use Rattle.spec_range.proofs.Tests.{test_false}
use Rattle.spec_range.proofs.Table.{table-length, table_at, table_same, all-at}

-- ---- folds

module _ {A : Type 0} (op : A → A → A) (e : A) where
  pub fold_none : (f : ℕ → A) → fold op e 0 f ≡ e
  unfolding fold
  fold_none f = refl

  pub fold_more : (n : ℕ) (f : ℕ → A) → fold op e (n + 1) f ≡ op (fold op e n f) (f n)
  unfolding fold
  fold_more n f = ap (λ (k : ℕ). fold op e k f) (add-one n)

  -- one more term joins what was gathered
  pub fold_step : (n : ℕ) (f : ℕ → A) {t x : A} → t ≡ fold op e n f → x ≡ f n → op t x ≡ fold op e (n + 1) f
  fold_step n f p q = ap₂ op p q ∙ sym (fold_more n f)

-- one more passes
pub all_step : (n : ℕ) (p : ℕ → Bool) → all n p ≡ true → p n ≡ true → all (n + 1) p ≡ true
all_step n p a b = sym (fold_step ◌&&◌ true n p (sym a) (sym b))

-- one that fails decides
pub all_fails : (n : ℕ) (p : ℕ → Bool) (i : ℕ) → i < n → p i ≡ false → all n p ≡ false
all_fails n p i l e = test_false (all n p) (λ t. subst T e (all-at n p t i l))

-- ---- an array that is filled from the front: the places below n are f's values, the others 0

pub record Held (size n : ℕ) (f : ℕ → ℕ) (w : List ℕ) : Type 0 where
  pub long : length w ≡ size
  pub at : (k : ℕ) → k < n → get_or w k 0 ≡ f k
  pub rest : (k : ℕ) → n ≤ k → get_or w k 0 ≡ 0

-- every place of n zeros is 0
pub zero_at : (n k : ℕ) → get_or {A = ℕ} (replicate n 0) k 0 ≡ 0
zero_at zero k = refl
zero_at (suc n) zero = refl
zero_at (suc n) (suc k) = zero_at n k

pub held_none : (size : ℕ) (f : ℕ → ℕ) → Held size 0 f (replicate size 0)
held_none size f = record { long = length-replicate size 0; at = λ k l. absurd (not-suc-le-zero l); rest = λ k l. zero_at size k }

-- a list after a store at n, read below n + 1
stored : (n : ℕ) (f : ℕ → ℕ) (w : List ℕ) (v : ℕ) → n < length w → v ≡ f n → ((k : ℕ) → k < n → get_or w k 0 ≡ f k)
    → (k : ℕ) → k < n + 1 → get_or (set w n v) k 0 ≡ f k
stored n f w v l e h k b =
    ⊎_elim
    (λ q. subst (λ (m : ℕ). get_or (set w n v) m 0 ≡ f m) (sym q) (get_or-set_same w n v 0 l ∙ e))
    (λ b. get_or-set_other w n k v 0 (λ q. lt_irrefl n (subst (λ (m : ℕ). m < n) q b)) ∙ h k b)
    (eq-or-lt_of_le (le_of_suc-le-suc (subst (λ (m : ℕ). k < m) (add-one n) b)))

-- and above
kept : (n : ℕ) (w : List ℕ) (v k : ℕ) → n + 1 ≤ k → get_or (set w n v) k 0 ≡ get_or w k 0
kept n w v k b = get_or-set_other w n k v 0 (λ q. lt_irrefl n (let z : n + 1 ≤ n = subst (λ (m : ℕ). n + 1 ≤ m) q b in omega arith))

pub held_more : {size n : ℕ} {f : ℕ → ℕ} {w : List ℕ} (v : ℕ) → n < size → v ≡ f n → Held size n f w → Held size (n + 1) f (set w n v)
held_more {size} {n} {f} {w} v l e h =
    record {
      long = length-set w n v ∙ h.long;
      at = stored n f w v (subst (λ (m : ℕ). n < m) (sym h.long) l) e h.at;
      rest = λ k b. kept n w v k b ∙ h.rest k (omega arith);
    }

-- two arrays that hold the same are equal
pub held_padded : {size n : ℕ} {f : ℕ → ℕ} {w : List ℕ} → Held size n f w → w ≡ padded size n f
unfolding padded
held_padded {size} {n} {f} {w} h =
    ext_get_or 0 w (padded size n f) (h.long ∙ sym (table-length size _)) (λ k l. same k (subst (λ (m : ℕ). k < m) h.long l) (dec_lt k n))
  where
    same : (k : ℕ) → k < size → Dec (k < n) → get_or w k 0 ≡ get_or (padded size n f) k 0
    same k b (yes l) =
        h.at k l ∙ sym (table_at size (λ j. cond (ltb j n) (f j) 0) b ∙ ap (λ (t : Bool). cond t (f k) 0) (lt-ltb k n l))
    same k b (no l) =
        h.rest k (omega arith) ∙ sym (table_at size (λ j. cond (ltb j n) (f j) 0) b ∙ ap (λ (t : Bool). cond t (f k) 0) (le-ltb k n (omega arith)))

pub padded-length : (size n : ℕ) (f : ℕ → ℕ) → length (padded size n f) ≡ size
unfolding padded
padded-length size n f = table-length size _

pub padded-at : (size n : ℕ) (f : ℕ → ℕ) {k : ℕ} → n ≤ size → k < n → get_or (padded size n f) k 0 ≡ f k
unfolding padded
padded-at size n f {k} h l =
    table_at size (λ j. cond (ltb j n) (f j) 0) {i = k} (omega arith) ∙ ap (λ (t : Bool). cond t (f k) 0) (lt-ltb k n l)

pub padded_same : (size n : ℕ) {f g : ℕ → ℕ} → ((k : ℕ) → k < n → f k ≡ g k) → padded size n f ≡ padded size n g
unfolding padded
padded_same size n {f} {g} h = table_same size (λ k _. same k (dec_lt k n))
  where
    same : (k : ℕ) → Dec (k < n) → cond (ltb k n) (f k) 0 ≡ cond (ltb k n) (g k) 0
    same k (yes l) = ap (λ (x : ℕ). cond (ltb k n) x 0) (h k l)
    same k (no l) = ap (λ (t : Bool). cond t (f k) 0) (le-ltb k n (omega arith)) ∙ sym (ap (λ (t : Bool). cond t (g k) 0) (le-ltb k n (omega arith)))

-- ---- a list that is written over from the front: the places below n are f's values, the others as they were

pub record Over (n : ℕ) (f : ℕ → ℕ) (w₀ w : List ℕ) : Type 0 where
  pub long : length w ≡ length w₀
  pub at : (k : ℕ) → k < n → get_or w k 0 ≡ f k
  pub rest : (k : ℕ) → n ≤ k → get_or w k 0 ≡ get_or w₀ k 0

pub over_none : (f : ℕ → ℕ) (w : List ℕ) → Over 0 f w w
over_none f w = record { long = refl; at = λ k l. absurd (not-suc-le-zero l); rest = λ k l. refl }

pub over_more : {n : ℕ} {f : ℕ → ℕ} {w₀ w : List ℕ} (v : ℕ) → n < length w → v ≡ f n → Over n f w₀ w → Over (n + 1) f w₀ (set w n v)
over_more {n} {f} {w₀} {w} v l e h =
    record {
      long = length-set w n v ∙ h.long;
      at = stored n f w v l e h.at;
      rest = λ k b. kept n w v k b ∙ h.rest k (omega arith);
    }

-- written over whole
pub over_table : (n : ℕ) (f : ℕ → ℕ) (w₀ w : List ℕ) → length w₀ ≡ n → Over n f w₀ w → w ≡ table n f
over_table n f w₀ w e h =
    ext_get_or 0 w (table n f) (h.long ∙ e ∙ sym (table-length n f)) (λ k l.
    let b : k < n = subst (λ (m : ℕ). k < m) (h.long ∙ e) l in
    h.at k b ∙ sym (table_at n f b))

-- ---- an array that holds a shorter word reads like the word

pub padded-reads : (size n : ℕ) (f : ℕ → ℕ) → n ≤ size → (k : ℕ) → get_or (padded size n f) k 0 ≡ get_or (table n f) k 0
unfolding padded
padded-reads size n f h k = go (dec_lt k n) (dec_lt k size)
  where
    past : (m : ℕ) (f : ℕ → ℕ) → m ≤ k → get_or (table m f) k 0 ≡ 0
    past m f l = get_or-eq_default (table m f) 0 (le_trans (le_of_eq (table-length m f)) l)

    go : Dec (k < n) → Dec (k < size) → get_or (padded size n f) k 0 ≡ get_or (table n f) k 0
    go (yes l) d = padded-at size n f h l ∙ sym (table_at n f l)
    go (no l) (yes b) =
        table_at size (λ j. cond (ltb j n) (f j) 0) b ∙ ap (λ (t : Bool). cond t (f k) 0) (le-ltb k n (omega arith)) ∙ sym (past n f (omega arith))
    go (no l) (no b) = past size (λ j. cond (ltb j n) (f j) 0) (omega arith) ∙ sym (past n f (omega arith))

-- where the function is 0 from place n on, nothing is left out
pub padded_whole : (size n : ℕ) (f : ℕ → ℕ) → ((k : ℕ) → k < size → n ≤ k → f k ≡ 0) → padded size n f ≡ table size f
unfolding padded
padded_whole size n f z = table_same size (λ k l. go k l (dec_lt k n))
  where
    go : (k : ℕ) → k < size → Dec (k < n) → cond (ltb k n) (f k) 0 ≡ f k
    go k l (yes b) = ap (λ (t : Bool). cond t (f k) 0) (lt-ltb k n b)
    go k l (no b) = ap (λ (t : Bool). cond t (f k) 0) (le-ltb k n (omega arith)) ∙ sym (z k l (omega arith))

-- ---- a test of a range that stops at the first failure: of n places the i before it pass

pub record Passing (n : ℕ) (p : ℕ → Bool) (i : ℕ) : Type 0 where
  pub within : i ≤ n
  pub passed : all i p ≡ true

pub passing_none : (n : ℕ) (p : ℕ → Bool) → Passing n p 0
passing_none n p = record { within = zero-le; passed = fold_none ◌&&◌ true p }

module _ {n : ℕ} {p : ℕ → Bool} {i : ℕ} (h : Passing n p i) where
  pub passing_more : i < n → p i ≡ true → Passing n p (i + 1)
  passing_more l e = record { within = omega arith; passed = all_step i p h.passed e }

  pub passing_fails : i < n → p i ≡ false → false ≡ all n p
  passing_fails l e = sym (all_fails n p i l e)

  pub passing_end : n ≤ i → true ≡ all n p
  passing_end l = subst (λ (k : ℕ). true ≡ all k p) (omega arith) (sym h.passed)

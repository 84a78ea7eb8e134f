-- The limits of the two counts, as one search for numbers below `size` finds them.
-- Assumes nothing.
use mathlib.Core.Path.{◌≡◌, refl, sym, ap, ◌∙◌}
use mathlib.Core.Logic.{⊎_elim}
use mathlib.Core.Bool.{Bool, true, false}
use mathlib.Core.List.{List}
use Prim.Native.Nat.{ℕ, zero, suc, ◌+◌, ◌-◌, ◌*◌, ◌≤◌, ◌<◌}
use native.Mathlib.Nat.{le_refl, le_trans, lt_of_not-le, mul-one, not-suc-le-zero}
use native.Mathlib.Omega.{arith}
use borrow.Author.Tests.{lt-ltb, le-ltb, le-leb, lt-leb, leb-true, leb-false}
use lib.Dec.{T, leb, ltb, leb→le, le→leb}
use Rattle.sizes.specs.Blocks.{blocks}
use Rattle.sizes.proofs.Lengths.{blocks_high, blocks_fit}
use Rattle.spec_range.specs.Fold.{fold, indicator, count}
use Rattle.spec_range.proofs.Fold.{fold_cong, fold-short, sums}
use Rattle.spec_range.proofs.Count.{count_le, total_equal}
use Rattle.word_array.specs.Stored.{place}
use Rattle.decode_update.specs.Rule.{at_most, at_least, Widened, Limit}
use Rattle.decode_update.proofs.Counts.{count_longer}
use Rattle.decode_update.proofs.Search.{le_or_lt, Sought, sought_end}

-- ---- counts

-- a test that passes wherever another does counts no fewer
count_mono : (n : ℕ) (p q : ℕ → Bool) → ((k : ℕ) → T (p k) → T (q k)) → count n p ≤ count n q
unfolding fold
count_mono zero p q h = le_refl 0
count_mono (suc n) p q h = omega (arith, count_mono n p q h, one (p n) (q n) (h n))
  where
    one : (a b : Bool) → (T a → T b) → indicator a ≤ indicator b
    one true true f = le_refl 1
    one true false f = absurd (f tt)
    one false true f = omega arith
    one false false f = le_refl 0

-- where the places from n on fail, they may be left out
count_front : {n m : ℕ} (p : ℕ → Bool) → n ≤ m → ((k : ℕ) → n ≤ k → k < m → p k ≡ false) → count m p ≡ count n p
count_front {n} {m} p l h = fold-short ◌+◌ 0 sums n m l _ (λ k a b. ap indicator (h k a b))

-- all are counted, where all pass
count-all : (n : ℕ) (p : ℕ → Bool) → ((k : ℕ) → k < n → p k ≡ true) → count n p ≡ n
count-all n p h = total_equal n 1 _ (λ k l. ap indicator (h k l)) ∙ mul-one n

-- of each number, either it is at most x, or x + 1 at most it
both_counts : (n : ℕ) (f : ℕ → ℕ) (x : ℕ) → count n (λ k. leb (f k) x) + count n (λ k. leb (suc x) (f k)) ≡ n
unfolding fold
both_counts zero f x = refl
both_counts (suc n) f x = omega (arith, both_counts n f x, one (f n))
  where
    one : (y : ℕ) → indicator (leb y x) + indicator (leb (suc x) y) ≡ 1
    one y =
        ⊎_elim
        (λ l. rw (le-leb y x l, lt-leb (suc x) y (omega arith)))
        (λ l. rw (lt-leb y x l, le-leb (suc x) y l))
        (le_or_lt y x)

-- ---- the search

module _ (n most : ℕ) (a : List ℕ) where
  -- no more than `most` are at most x
  abbrev pub Low : ℕ → Type 0
  Low x = at_most n a x ≤ most

  -- then no more are at most a smaller number
  pub low_falls : (x y : ℕ) → x ≤ y → Low y → Low x
  unfolding at_most
  low_falls x y l h =
      le_trans (count_mono n (λ k. leb (place a k) x) (λ k. leb (place a k) y) (λ k t. le→leb (place a k) y (le_trans (leb→le (place a k) x t) l))) h

  -- all are at most x
  full : (x : ℕ) → ((k : ℕ) → k < n → place a k ≤ x) → at_most n a x ≡ n
  unfolding at_most
  full x b = count-all n (λ k. leb (place a k) x) (λ k l. le-leb (place a k) x (b k l))

  module _ {size : ℕ} where
    pub low-start : {top : ℕ} → most < at_most n a top → top < size → Sought size Low 0 (top + 1)
    low-start {top} l s =
        record {
          some = omega arith;
          within = omega arith;
          below = λ x l. absurd (not-suc-le-zero l);
          above = λ x f t p. omega (arith, low_falls top x (omega arith) p);
        }

    pub low_end : {t w : ℕ} → Sought size Low t w → w ≤ 1 → Limit size n a most t
    low_end {t} s l =
        record {
          within = omega arith;
          test = λ x b.
              ⊎_elim
              (λ h. le-leb (at_most n a x) most h.1 ∙ sym (lt-ltb x t h.0))
              (λ h. lt-leb (at_most n a x) most (lt_of_not-le h.1) ∙ sym (le-ltb x t h.0))
              (sought_end s l x b);
        }

-- ---- the two limits

-- the blocks of a word hold it, and fit
pub blocks_hold : {n r : ℕ} → r ≡ blocks n → n ≤ 255 → (n ≤ 64 * r) × (64 * r ≤ 256)
blocks_hold {n} e h = (omega (arith, blocks_fit h), omega (arith, blocks_high n))

-- where no number of the list is past `top`, more than `most`, fewer than n, of the widened list are at most it
pub top_counts : {n span most top v : ℕ} {a w : List ℕ} → Widened n a v w → n ≤ span → most < n → ((k : ℕ) → k < n → place a k ≤ top)
    → most < at_most span w top
unfolding at_most
top_counts {n} {span} {most} {top} {v} {a} {w} h f l b =
    omega (arith, count_longer (λ k. leb (place w k) top) f, full n most w top (λ k l. omega (arith, h.at k l, b k l)))

-- none is past the numbers put in, so that the limit of fewer than n of them all is that of the list's
pub limit_front : {size n span most t v : ℕ} {a w : List ℕ} → Widened n a v w → n ≤ span → span ≤ 256 → most < n → Limit size span w most t
    → Limit size n a most t
unfolding at_most
limit_front {n = n} {span = span} {most = most} {v = v} {a = a} {w = w} h f b l t =
    record { within = t.within; test = λ x s. ⊎_elim (past x) (short x) (le_or_lt v x) ∙ t.test x s }
  where
    short : (x : ℕ) → x < v → leb (at_most n a x) most ≡ leb (at_most span w x) most
    short x l =
        ap (λ (y : ℕ). leb y most)
        (sym
        (count_front (λ k. leb (place w k) x) f (λ k f c. ap (λ (y : ℕ). leb y x) (h.rest k f (omega arith)) ∙ lt-leb v x l)
        ∙ fold_cong ◌+◌ 0 n (λ k b. ap (λ (y : ℕ). indicator (leb y x)) (h.at k b))))

    past : (x : ℕ) → v ≤ x → leb (at_most n a x) most ≡ leb (at_most span w x) most
    past x s =
        lt-leb (at_most n a x) most (omega (arith, full n most a x (λ k l. omega (arith, h.at k l, h.most k (omega arith)))))
        ∙ sym (lt-leb (at_most span w x) most (omega (arith, full span most w x (λ k l. le_trans (h.most k (omega arith)) s))))

module _ (n places : ℕ) (a : List ℕ) {size t : ℕ} where
  -- the peaks below a limit are those that are not at least the limit
  pub high_end : places < n → Limit size n a (n - places - 1) t → (x : ℕ) → x < size → leb (at_least n a x) places ≡ leb (t + 1) x
  unfolding at_most at_least
  high_end l h zero b =
      lt-leb (at_least n a 0) places (omega (arith, count-all n (λ k. leb 0 (place a k)) (λ k l. le-leb 0 (place a k) (omega arith))))
      ∙ sym (lt-leb (t + 1) 0 (omega arith))
  high_end l h (suc y) b =
      let s = both_counts n (place a) y in
      let e = h.test y (omega arith) in
      let low = at_most n a y in
      let high = at_least n a (suc y) in
      ⊎_elim
      (λ c. le-leb high places (omega (arith, leb-false low (n - places - 1) (e ∙ le-ltb y t c))) ∙ sym (le-leb (t + 1) (suc y) (omega arith)))
      (λ c. lt-leb high places (omega (arith, leb-true low (n - places - 1) (e ∙ lt-ltb y t c))) ∙ sym (lt-leb (t + 1) (suc y) (omega arith)))
      (le_or_lt t y)

  -- all are admitted, where there are no more than `places`
  pub low_all : n ≤ places → size ≤ t → (x : ℕ) → x < size → leb (at_most n a x) places ≡ ltb x t
  unfolding at_most
  low_all l f x b = le-leb _ _ (le_trans (count_le n (λ k. leb (place a k) x)) l) ∙ sym (lt-ltb x t (omega arith))

  pub high_all : n ≤ places → t ≤ 0 → (x : ℕ) → x < size → leb (at_least n a x) places ≡ leb t x
  unfolding at_least
  high_all l f x b = le-leb _ _ (le_trans (count_le n (λ k. leb x (place a k))) l) ∙ sym (le-leb t x (omega arith))

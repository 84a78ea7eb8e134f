-- The peaks of a matrix of q rows of n entries, as the loop over the rows has them at row i.
-- Assumes nothing.
use mathlib.Core.Path.{◌≡◌, sym, ap, ap₂, ◌∙◌, subst}
use mathlib.Core.List.{List}
use Prim.Native.Nat.{ℕ, zero, suc, pred, ◌+◌, ◌-◌, ◌*◌, max, ◌≤◌, ◌<◌}
use native.Mathlib.Nat.{suc-mul, mul-le-mul_right, not-suc-le-zero}
use native.Mathlib.Numerals.{add-one}
use native.Mathlib.Omega.{arith}
use lib.ListN.{length, take, drop, replicate, length-take, length-drop, length-replicate}
use lib.Seq.{get_or-take, get_or-drop}
use Rattle.spec_range.specs.Fold.{fold, largest}
use Rattle.spec_range.proofs.Loop.{zero_at, fold_none}
use Rattle.word_array.specs.Stored.{place}
use Rattle.decode_update.specs.Column.{Sole, none, column, Peaked, Taken}
use Rattle.decode_update.proofs.Sole.{sole_more}

pub record Climbing (q n : ℕ) (m : List ℕ) (i : ℕ) (counts symbols : List ℕ) : Type 0 where
  pub first : 1 ≤ i
  pub within : i ≤ q
  pub counts_long : length counts ≡ 255
  pub symbols_long : length symbols ≡ 255
  pub peaked : Peaked n m i counts symbols

-- no row is taken
pub climbing_none : {q n i : ℕ} {m : List ℕ} → i ≡ 1 → 1 ≤ q → Climbing q n m i (replicate 255 0) (replicate 255 0)
climbing_none {q} {n} {i} {m} e l =
    record {
      first = omega arith;
      within = omega arith;
      counts_long = length-replicate {A = ℕ} 255 0;
      symbols_long = length-replicate {A = ℕ} 255 0;
      peaked = record {
        count_at = λ j l. zero_at 255 j ∙ sym (ap (λ (i : ℕ). largest (pred i) (column n m j)) e ∙ fold_none max 0 _);
        symbol_at = λ j l. subst (Sole (pred i) (column n m j) (place (replicate 255 0) j)) (sym (zero_at 255 j)) (none (zero_at 255 j));
      };
    }

-- row i lies in the matrix
pub row_within : {i q : ℕ} (n : ℕ) → i < q → i * n + n ≤ q * n
row_within {i} n l = rw suc-mul at (mul-le-mul_right n l)

-- the row as the part of the list that the call lends
abbrev pub part : List ℕ → ℕ → ℕ → List ℕ
part m s n = take (s + n - s) (drop s m)

module _ (m : List ℕ) (s n : ℕ) where
  part_length : s + n ≤ length m → length (part m s n) ≡ n
  part_length h = simp (length-take, length-drop) (omega arith)

  part_at : (j : ℕ) → j < n → place (part m s n) j ≡ place m (s + j)
  part_at j l = get_or-take (s + n - s) (drop s m) j 0 (omega arith) ∙ get_or-drop s m j 0

module _ {n : ℕ} {m counts symbols counts' symbols' : List ℕ} where
  peaked-more : {k : ℕ} → suc k * n + n ≤ length m → Peaked n m (suc k) counts symbols
      → Taken (part m (suc k * n) n) (suc k) counts symbols counts' symbols' → Peaked n m (suc (suc k)) counts' symbols'
  unfolding column fold
  peaked-more {k} b h t =
      record {
        count_at = λ j l. t.count_at j (long j l) ∙ ap₂ max (h.count_at j l) (part_at m _ n j l);
        symbol_at = λ j l.
            rw (t.count_at j (long j l), t.symbol_at j (long j l), part_at m (suc k * n) n j l)
            (sole_more (column n m j) k (h.count_at j l) (h.symbol_at j l));
      }
    where
      long : (j : ℕ) → j < n → j < length (part m (suc k * n) n)
      long j l = subst (λ (x : ℕ). j < x) (sym (part_length m (suc k * n) n b)) l

  pub climbing_more : {q i : ℕ} → length m ≡ q * n → i < q → Climbing q n m i counts symbols
      → Taken (part m (i * n) n) i counts symbols counts' symbols' → Climbing q n m (i + 1) counts' symbols'
  climbing_more {i = zero} e l h t = absurd (not-suc-le-zero h.first)
  climbing_more {q} {i = suc k} e l h t =
      record {
        first = omega arith;
        within = omega arith;
        counts_long = t.counts_long ∙ h.counts_long;
        symbols_long = t.symbols_long ∙ h.symbols_long;
        peaked = rw add-one (peaked-more (rw e (row_within n l)) h.peaked t);
      }

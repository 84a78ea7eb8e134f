-- The rows of the matrix, gathered from the counters one after another.
-- Assumes nothing.
use mathlib.Core.Path.{◌≡◌, refl, sym, ◌∙◌, subst}
use mathlib.Core.Logic.{⊎_elim}
use mathlib.Core.List.{List}
use Prim.Native.Nat.{ℕ, ◌+◌, ◌-◌, ◌*◌, ◌^◌, ◌≤◌, ◌<◌}
use native.Mathlib.Nat.{eq-or-lt_of_le, le_of_suc-le-suc, lt_irrefl}
use native.Mathlib.Numerals.{add-one}
use native.Mathlib.Omega.{arith}
use lib.Arith.{digits_lt}
use lib.ListN.{length}
use Rattle.word_array.specs.Stored.{place}
use Rattle.word_table.specs.Window.{Window}
use Rattle.word_table.proofs.Rows.{rows_apart}
use Rattle.matrix_terms.proofs.Received.{order_low}
use Rattle.matrix_marks.specs.Marks.{Gatherable, Gathered}

-- rows 1 to i - 1 are gathered
pub record Gathering (span n : ℕ) (logs c m₀ m : List ℕ) (i : ℕ) : Type 0 where
  pub from_one : 1 ≤ i
  pub long : length m ≡ length m₀
  pub gathered : (k j : ℕ) → 0 < k → k < i → j < n → place m (k * n + j) ≡ place c (span * place logs k + j)

-- no row is gathered
pub gathering_none : (span n : ℕ) (logs c m : List ℕ) → Gathering span n logs c m m 1
gathering_none span n logs c m = record { from_one = omega arith; long = refl; gathered = λ k j pos l. absurd (lt_irrefl k (omega arith)) }

module _ {span p n : ℕ} {logs c m₀ m : List ℕ} {i : ℕ} (ok : Gatherable span p n logs c m₀) (h : Gathering span n logs c m₀ m i) where
  -- row i lies within the matrix
  pub row_within : i < 2 ^ p → i * n + n ≤ length m
  row_within l =
      omega (arith, ok.size, h.long, digits_lt {q = i} {m = 2 ^ p} {r = n - 1} {c = n} l (omega (arith, ok.sizes.n_low)), ok.sizes.n_low)

  -- and its logarithm's row within the counters
  pub counters_within : i < 2 ^ p → span * place logs i + n ≤ length c
  counters_within l =
      let low = ok.log_lt i h.from_one l in
      omega (arith, rows_apart span {b = place logs i} {c = 2 ^ p - 1} (omega arith), ok.counts_long, ok.short)

  -- a row of counters is no longer than all
  pub span_within : span ≤ length c
  span_within = omega (arith, rows_apart span {b = 0} {c = 2 ^ p - 1} (omega (arith, order_low ok.sizes)), ok.counts_long)

  -- one more row
  pub gathering_more : {m' : List ℕ} → Window (i * n) n (λ j. place c (span * place logs i + j)) m m' → Gathering span n logs c m₀ m' (i + 1)
  gathering_more {m'} put =
      record {
        from_one = omega arith;
        long = put.long ∙ h.long;
        gathered = λ k j pos l b. ⊎_elim
            (λ q. subst (λ (k : ℕ). place m' (k * n + j) ≡ place c (span * place logs k + j)) (sym q) (put.at j b))
            (λ l. put.low _ (digits_lt l b) ∙ h.gathered k j pos l b)
            (eq-or-lt_of_le (le_of_suc-le-suc (subst (λ (m : ℕ). k < m) (add-one i) l)));
      }

  -- all rows
  pub gathering_end : 2 ^ p ≤ i → Gathered span p n logs c m
  gathering_end l = record { gathered = λ k j pos b s. h.gathered k j pos (omega arith) s }

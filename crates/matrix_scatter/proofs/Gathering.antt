-- The rows of the matrix from 1 on, gathered one after another.
-- Assumes nothing.
use mathlib.Core.Path.{◌≡◌, refl, sym, ap, ◌∙◌, subst}
use mathlib.Core.Logic.{⊎_elim}
use mathlib.Core.List.{List}
use Prim.Native.Nat.{ℕ, ◌+◌, ◌-◌, ◌*◌, ◌^◌, ◌≤◌, ◌<◌}
use native.Mathlib.Nat.{mul-le-mul_right, eq-or-lt_of_le, le_of_suc-le-suc, suc-mul}
use native.Mathlib.Numerals.{add-one}
use native.Mathlib.Omega.{arith}
use lib.Arith.{digits_lt}
use lib.ListN.{length}
use Rattle.word_array.specs.Stored.{place, Sizes}
use Rattle.word_table.specs.Window.{Window}
use Rattle.matrix_terms.proofs.Received.{order_low}
use Rattle.matrix_scatter.specs.Scatter.{RowGathered, Gatherable, both_rows, Gathered}

-- a row written whole
pub row_gathered : {n from low high j : ℕ} {counts m₀ m : List ℕ} → j ≡ n
    → Window from j (λ j. place counts (low + j) + place counts (high + j)) m₀ m → RowGathered n from low high counts m₀ m
row_gathered e h =
    record { long = h.long; sum = λ j l. h.at j (omega arith); below = λ k l. h.low k l; above = λ k l. h.high k (omega arith) }

-- the rows from 1 to i - 1 are gathered
pub record Gathering (p n : ℕ) (logs counts m₀ m : List ℕ) (i : ℕ) : Type 0 where
  pub low : 1 ≤ i
  pub high : i ≤ 2 ^ p
  pub long : length m ≡ length m₀
  pub row : (d j : ℕ) → 0 < d → d < i → j < n → place m (d * n + j) ≡ both_rows p n counts (place logs d) j

-- before row 1
pub gathering_none : {p n : ℕ} → Sizes p n → (logs counts m : List ℕ) → Gathering p n logs counts m m 1
gathering_none s logs counts m =
    record { low = omega arith; high = omega (arith, order_low s); long = refl; row = λ d j a b. absurd (omega arith) }

module _ {p n : ℕ} {logs counts m₀ m : List ℕ} {i : ℕ} (h : Gathering p n logs counts m₀ m i) where
  -- after the last row
  pub gathering_end : 2 ^ p ≤ i → Gathered p n logs counts m₀ m
  gathering_end l = record { long = h.long; row = λ d j a b. h.row d j a (omega arith) }

  -- row i is next, of q
  module _ (ok : Gatherable p n logs counts m₀) {q : ℕ} (eq : q ≡ 2 ^ p) (l : i < q) where
    below : i < 2 ^ p
    below = omega arith

    -- the logarithm of its symbol is below 2 ^ p - 1
    pub log-small : place logs i + 1 < 2 ^ p
    log-small = ok.logged.log_lt i h.low below

    -- the rows lie within
    pub row_in : i * n + n ≤ length m
    row_in = omega (arith, ok.size, h.long, suc-mul i n, mul-le-mul_right n below)

    -- so do the counters of both rows
    pub high-in : (place logs i + (q - 1)) * (n + 1) + n ≤ length counts
    high-in =
        let b : place logs i + (q - 1) < 3 * (2 ^ p - 1) + 1 = omega (arith, log-small, eq) in
        omega (arith, ok.long, digits_lt {r = n} {c = n + 1} b (omega arith))

    pub low-in : place logs i * (n + 1) + n ≤ length counts
    low-in =
        let b : place logs i < 3 * (2 ^ p - 1) + 1 = omega (arith, log-small) in
        omega (arith, ok.long, digits_lt {r = n} {c = n + 1} b (omega arith))

    -- one more row
    pub gathering_more : {m' : List ℕ} → RowGathered n (i * n) (place logs i * (n + 1)) ((place logs i + (q - 1)) * (n + 1)) counts m m'
        → Gathering p n logs counts m₀ m' (i + 1)
    unfolding both_rows
    gathering_more {m'} t =
        record {
          low = omega arith;
          high = omega arith;
          long = t.long ∙ h.long;
          row = λ d j a b c. ⊎_elim
              (λ x. subst (λ (d : ℕ). place m' (d * n + j) ≡ both_rows p n counts (place logs d) j) (sym x)
              (t.sum j c ∙ ap (λ (q : ℕ). place counts (place logs i * (n + 1) + j) + place counts ((place logs i + (q - 1)) * (n + 1) + j)) eq))
              (λ x. t.below _ (digits_lt x c) ∙ h.row d j a x c)
              (eq-or-lt_of_le (le_of_suc-le-suc (subst (λ (m : ℕ). d < m) (add-one i) b)));
        }

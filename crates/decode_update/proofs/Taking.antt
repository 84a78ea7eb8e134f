-- A row that a loop takes into the peaks: the places below j have it, the others are as they were.
-- Assumes nothing.
use mathlib.Core.Path.{◌≡◌}
use mathlib.Core.List.{List}
use Prim.Native.Nat.{ℕ, ◌+◌, max, ◌≤◌, ◌<◌, zero-le}
use native.Mathlib.Nat.{le_refl}
use native.Mathlib.Omega.{arith}
use lib.ListN.{length, set}
use Rattle.spec_range.proofs.Loop.{Over, over_none, over_more}
use Rattle.word_array.specs.Stored.{place}
use Rattle.decode_update.specs.Column.{climbed, Taken}

module _ (row : List ℕ) (s : ℕ) (counts₀ symbols₀ : List ℕ) where
  pub record Taking (j : ℕ) (counts symbols : List ℕ) : Type 0 where
    pub within : j ≤ length row
    pub counts-taken : Over j (λ k. max (place counts₀ k) (place row k)) counts₀ counts
    pub symbols-taken : Over j (λ k. climbed (place counts₀ k) (place symbols₀ k) (place row k) s) symbols₀ symbols

  pub taking_none : Taking 0 counts₀ symbols₀
  taking_none = record { within = zero-le; counts-taken = over_none _ counts₀; symbols-taken = over_none _ symbols₀ }

  module _ {j : ℕ} {counts symbols : List ℕ} (h : Taking j counts symbols) where
    pub taking-more : {v w : ℕ} → j < length row → j < length counts → j < length symbols
        → v ≡ max (place counts j) (place row j) → w ≡ climbed (place counts j) (place symbols j) (place row j) s
        → Taking (j + 1) (set counts j v) (set symbols j w)
    taking-more l lc ls e f =
        let c : place counts j ≡ place counts₀ j = h.counts-taken.rest j (le_refl j) in
        record {
          within = omega arith;
          counts-taken = over_more _ lc (rw c at e) h.counts-taken;
          symbols-taken = over_more _ ls (rw (c, h.symbols-taken.rest j (le_refl j)) at f) h.symbols-taken;
        }

    pub taking-end : length row ≤ j → Taken row s counts₀ symbols₀ counts symbols
    taking-end l =
        record {
          counts_long = h.counts-taken.long;
          symbols_long = h.symbols-taken.long;
          count_at = λ k b. h.counts-taken.at k (omega arith);
          symbol_at = λ k b. h.symbols-taken.at k (omega arith);
        }

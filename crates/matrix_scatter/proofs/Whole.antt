-- The whole matrix: the rows gathered are what the dual words count.
-- Assumes nothing.
use mathlib.Core.Path.{◌≡◌, sym, ap, ap₂, ◌∙◌}
use mathlib.Core.List.{List}
use Prim.Native.Nat.{ℕ, ◌+◌, ◌-◌, ◌*◌, ◌%◌, ◌^◌, ◌≤◌}
use native.Mathlib.Omega.{arith}
use lib.ListN.{replicate, length-replicate}
use Rattle.spec_range.proofs.Fold.{fold_cong, fold-op, sums}
use Rattle.spec_range.proofs.Loop.{zero_at}
use Rattle.spec_word.specs.Word.{at}
use Rattle.word_array.specs.Stored.{place, Sizes}
use Rattle.matrix_terms.specs.Terms.{TermsOf, Filling, weight_in}
use Rattle.matrix_terms.proofs.Whole.{RowsFilled, terms_weight}
use Rattle.matrix_terms.proofs.Received.{order_low}
use Rattle.matrix_scatter.specs.Scatter.{both_rows, Gathered}
use Rattle.matrix_scatter.specs.Fill.{Cleared, Scattering, dual_rows, Scattered}
use Rattle.matrix_scatter.proofs.Rows.{width_le}
use Rattle.matrix_scatter.proofs.Duals.{product_symbol}
use Rattle.matrix_scatter.proofs.Division.{both_rows_lem}

-- how many counters there are, for a field of q symbols
pub rows_are : {q o : ℕ} (p n : ℕ) → q ≡ o → o ≡ 2 ^ p → (3 * (q - 1) + 1) * (n + 1) ≡ (3 * (2 ^ p - 1) + 1) * (n + 1)
rows_are p n e f = ap (λ (q : ℕ). (3 * (q - 1) + 1) * (n + 1)) (e ∙ f)

-- the counters fit the larger room
pub rows_fit : {p n : ℕ} → Sizes p n → (3 * (2 ^ p - 1) + 1) * (n + 1) ≤ 12288
rows_fit {p} s = width_le s 3 {a = 3 * (2 ^ p - 1) + 1} (omega (arith, order_low s))

-- a room of zeros that is large enough
pub cleared : {p n size : ℕ} → (3 * (2 ^ p - 1) + 1) * (n + 1) ≤ size → Cleared p n (replicate size 0)
cleared {size = size} l = record { size = omega (arith, length-replicate {A = ℕ} size 0); zero_at = zero_at size }

module _ {stride p n duals : ℕ} {terms r m₀ : List ℕ} where
  -- the dual words can be counted
  pub scattering : {counts : List ℕ} → Filling stride p n duals terms r m₀ → (n + 1) % 8 ≡ 0 → Cleared p n counts
      → Scattering stride p n duals terms r counts
  scattering ok e c = record { eights = e; words = ok.words; terms_of = ok.terms_of; room = ok.room; word = ok.word; cleared = c }

  -- the rows from 1 on are those of the matrix
  pub rows_filled : {b : ℕ → ℕ → ℕ} {counts m : List ℕ} → TermsOf stride p n duals b terms → Scattered stride p n duals terms r counts
      → Gathered p n terms counts m₀ m → RowsFilled p n b duals (weight_in terms) (at n r) m
  unfolding both_rows dual_rows
  rows_filled {b} h c g =
      let x = h.numbers.powers in
      let s = h.numbers.sizes in
      record {
        weights = terms_weight h;
        rows = λ i j i-pos i_lt d.
            let low = x.log_lt i i-pos i_lt in
            g.row i j i-pos i_lt d
            ∙ ap₂ (λ (x y : ℕ). x + y) (c.counter b h (place terms i) j (omega arith) (omega arith))
            (c.counter b h (place terms i + (2 ^ p - 1)) j (omega arith) (omega arith))
            ∙ sym (fold-op ◌+◌ 0 sums duals _ _)
            ∙ fold_cong ◌+◌ 0 duals (λ l e.
            both_rows_lem s x (at n r) h.numbers.fits (h.row_of l e).turns_of (h.row_of l e).symbol (product_symbol s (b l) (at n r)) i j i-pos i_lt);
      }

-- With one row for each column, a cell is met in its own column alone.
-- Assumes nothing.
use mathlib.Core.Path.{◌≡◌, sym, ap, ap₂, ◌∙◌}
use mathlib.Core.Bool.{Bool, cond}
use Prim.Native.Nat.{ℕ, ◌+◌, ◌*◌, ◌/◌, ◌%◌, ◌<◌}
use native.Mathlib.Nat.{mod-lt, div-add-mod'}
use native.Mathlib.Decide.{ℕ_discrete}
use borrow.Author.Tests.{eq-eqb, ne_eqb}
use lib.Arith.{digits_div, digits_mod}
use lib.Dec.{eqb}
use Rattle.spec_range.specs.Fold.{total, indicator}
use Rattle.spec_range.proofs.Tests.{same_eqb}
use Rattle.spec_range.proofs.Fold.{fold_cong, fold-pick, sums}

-- cell k is counted where the row of its column is its own
pub one_column : (n : ℕ) (row : ℕ → ℕ) (k : ℕ) → 0 < n → total n (λ j. indicator (eqb (row j * n + j) k)) ≡ indicator (eqb (row (k % n)) (k / n))
one_column n row k pos =
    fold_cong ◌+◌ 0 n (λ j l. cell j l (ℕ_discrete j (k % n)))
    ∙ fold-pick ◌+◌ 0 sums n (k % n) (mod-lt k pos) (λ j. indicator (eqb (row j) (k / n)))
  where
    cell : (j : ℕ) → j < n → Dec (j ≡ k % n) → indicator (eqb (row j * n + j) k) ≡ cond (eqb j (k % n)) (indicator (eqb (row j) (k / n))) 0
    cell j l (yes e) =
        ap indicator
        (same_eqb
        (λ d. sym (digits_div (row j) l) ∙ ap (λ (x : ℕ). x / n) d)
        (λ d. ap₂ (λ (x y : ℕ). x * n + y) d e ∙ div-add-mod' k n))
        ∙ sym (ap (λ (b : Bool). cond b (indicator (eqb (row j) (k / n))) 0) (eq-eqb j (k % n) e))
    cell j l (no h) =
        ap indicator (ne_eqb (row j * n + j) k (λ d. h (sym (digits_mod (row j) l) ∙ ap (λ (x : ℕ). x % n) d)))
        ∙ sym (ap (λ (b : Bool). cond b (indicator (eqb (row j) (k / n))) 0) (ne_eqb j (k % n) h))

-- The degree of a generator as the loop has it: that of the places passed.
-- Assumes nothing.
use mathlib.Core.Path.{◌≡◌, sym, ap, ◌∙◌}
use mathlib.Core.Bool.{Bool, not, cond}
use Prim.Native.Nat.{ℕ, max, ◌+◌, ◌≤◌}
use native.Mathlib.Nat.{max-eq_right, max-zero}
use borrow.Author.Tests.{eq-eqb, ne_eqb}
use Rattle.spec_range.proofs.Loop.{fold_step}
use Rattle.spec_book.specs.Layout.{degree_of}

-- one place more

module _ (g : ℕ → ℕ) (i d : ℕ) (e : d ≡ degree_of i g) where
  pub degree_nonzero : d ≤ i → (g i ≡ 0 → ⊥) → i ≡ degree_of (i + 1) g
  unfolding degree_of
  degree_nonzero l h = sym (max-eq_right l) ∙ fold_step max 0 i _ e (sym (ap (λ (b : Bool). cond (not b) i 0) (ne_eqb (g i) 0 h)))

  pub degree_zero : g i ≡ 0 → d ≡ degree_of (i + 1) g
  unfolding degree_of
  degree_zero h = sym (max-zero d) ∙ fold_step max 0 i _ e (sym (ap (λ (b : Bool). cond (not b) i 0) (eq-eqb (g i) 0 h)))

-- What a refusal number tells, and what the code returns for it.
-- Assumes nothing.
use mathlib.Core.Path.{◌≡◌, refl, sym, ap, ◌∙◌}
use mathlib.Core.Bool.{Bool, true, false, cond}
use mathlib.Core.List.{List}
use Prim.Native.Nat.{ℕ, zero, suc, ◌^◌, ◌<◌, ◌≤◌}
use native.Mathlib.Omega.{arith}
use lib.Dec.{ltb, leb, eqb}
use borrow.Author.Tests.{ltb-false, leb-false, eqb-false}
use Rattle.spec_field.specs.Answer.{answer, or_else, done, refused}
use Rattle.spec_field.specs.Operations.{field_refusal, inverse_refusal}

-- no refusal: the condition fails, and none after it holds
pub passed : (t : Bool) (n rest : ℕ) → cond t (suc n) rest ≡ 0 → (t ≡ false) × (rest ≡ 0)
passed true n rest e = absurd (omega arith)
passed false n rest e = (refl, e)

-- a number n was found, which is the definition's k: where it is not 0 it is the answer, else the next number or the values are
pub found_first : (n k next : ℕ) → n ≡ k → (n ≡ 0 → ⊥) → n ≡ or_else k next
found_first n zero next e h = absurd (h e)
found_first n (suc k) next e h = e

pub found_next : (n k next : ℕ) → n ≡ k → n ≡ 0 → next ≡ or_else k next
found_next n k next e z = ap (λ (m : ℕ). or_else m next) (sym z ∙ e)

pub answers_refused : (n k : ℕ) (values : List ℕ) → n ≡ k → (n ≡ 0 → ⊥) → refused n ≡ answer k values
answers_refused n zero values e h = absurd (h e)
answers_refused n (suc k) values e h = ap refused e

pub answers_done : (n k : ℕ) (values : List ℕ) → n ≡ k → n ≡ 0 → done values ≡ answer k values
answers_done n k values e z = ap (λ (m : ℕ). answer m values) (sym z ∙ e)

-- nothing was refused by either
pub neither : (n next : ℕ) → or_else n next ≡ 0 → (n ≡ 0) × (next ≡ 0)
neither zero next e = (refl, e)
neither (suc n) next e = absurd (omega arith)

pub record Symbols (p a b : ℕ) : Type 0 where
  pub low : 1 ≤ p
  pub high : p ≤ 6
  pub left : a < 2 ^ p
  pub right : b < 2 ^ p

pub accepted : (p a b : ℕ) → field_refusal p a b ≡ 0 → Symbols p a b
unfolding field_refusal
accepted p a b e =
    let e₁ = passed (eqb p 0) 2 _ e in
    let e₂ = passed (ltb 6 p) 2 _ e₁.1 in
    let e₃ = passed (leb (2 ^ p) a) 10 _ e₂.1 in
    let e₄ = passed (leb (2 ^ p) b) 10 _ e₃.1 in
    record {
      low = omega (arith, eqb-false p 0 e₁.0);
      high = ltb-false 6 p e₂.0;
      left = leb-false (2 ^ p) a e₃.0;
      right = leb-false (2 ^ p) b e₄.0;
    }

pub accepted-inverse : (p a : ℕ) → inverse_refusal p a ≡ 0 → Symbols p a a × (0 < a)
unfolding inverse_refusal
accepted-inverse p a e =
    let both = neither (field_refusal p a a) (cond (eqb a 0) 13 0) e in
    let nonzero = passed (eqb a 0) 12 0 both.1 in
    (accepted p a a both.0, omega (arith, eqb-false a 0 nonzero.0))

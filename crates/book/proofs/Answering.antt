-- What is answered to a check, once it is known what opening the book answers.
-- Assumes nothing.
use mathlib.Core.Path.{◌≡◌, refl, ap, ◌∙◌}
use mathlib.Core.List.{List, [], ◌∷◌}
use Prim.Native.Nat.{ℕ, ◌≤◌}
use native.Mathlib.Omega.{arith}
use Rattle.spec_field.specs.Answer.{done}
use Rattle.spec_field.proofs.Refusals.{answers_done}
use Rattle.spec_book.specs.Layout.{book_of}
use Rattle.spec_book.specs.Conditions.{refusal}
use Rattle.book_records.proofs.Tested.{readable}
use Rattle.spec_operations.specs.Check.{check_answer}
use Rattle.book.specs.Params.{Describes}
use Rattle.book.specs.declared.Params.{Params}

module _ {bytes : List ℕ} {c : Params} (d : Describes bytes c) where
  pub duals_high : c.duals ≤ 32
  unfolding book_of
  duals_high = omega (arith, d.duals_is, (readable bytes d.accepted).whole.count_high)

  pub counts_duals : done (c.duals ∷ []) ≡ check_answer bytes
  unfolding book_of
  counts_duals = ap (λ (n : ℕ). done (n ∷ [])) d.duals_is ∙ answers_done (refusal bytes) _ _ refl d.accepted

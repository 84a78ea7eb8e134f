-- A piece in two parts.
-- Assumes nothing.
use mathlib.Core.Path.{◌≡◌, sym, ap, ◌∙◌}
use mathlib.Core.List.{List, ◌++◌}
use Prim.Native.Nat.{ℕ, ◌-◌}
use native.Mathlib.Omega.{arith}
use lib.ListN.{length, take, drop, length-drop, take-append-drop}
use lib.Seq.{take_all}
use Rattle.spec_program.specs.Machine as M
use Rattle.spec_program.specs.Machine.{steps, steps_text}
use Rattle.spec_program.proofs.Joining.{steps_join, steps_text_join}

-- what a piece has from an index on
pub rest_is : (piece : List ℕ) (at : ℕ) → take (length piece - at) (drop at piece) ≡ drop at piece
rest_is piece at = take_all (length piece - at) (drop at piece) (omega (arith, length-drop at piece))

module _ (s : M.State) (k : ℕ) (piece : List ℕ) where
  pub steps_split : steps s piece ≡ steps (steps s (take k piece)) (drop k piece)
  steps_split = ap (steps s) (sym (take-append-drop k piece)) ∙ steps_join s (take k piece) (drop k piece)

  pub steps_text_split : steps_text s piece ≡ steps_text s (take k piece) ++ steps_text (steps s (take k piece)) (drop k piece)
  steps_text_split = ap (steps_text s) (sym (take-append-drop k piece)) ∙ steps_text_join s (take k piece) (drop k piece)

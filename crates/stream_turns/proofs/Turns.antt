-- The turns of a run: `turns` of them are enough, and the run then prints the output of its whole input.
-- Assumes nothing.
use mathlib.Core.Path.{◌≡◌, refl, sym, ap, subst, ◌∙◌}
use mathlib.Core.Bool.{Bool, true, false, cond, not, ◌||◌}
use mathlib.Core.List.{List, [], ◌++◌}
use Prim.Native.Nat.{ℕ, zero, suc, ◌-◌, ◌*◌, ◌≤◌}
use native.Mathlib.Nat.{suc-mul}
use native.Mathlib.Omega.{arith}
use borrow.Author.Tests.{eqb-true, eqb-false}
use lib.Dec.{T, eqb}
use lib.ListN.{length, take, drop, length-append, length-take, take-append-drop, drop_of_length-le}
use Rattle.spec_range.proofs.Tests.{true_test}
use Rattle.spec_program.specs.Output.{output}
use Rattle.spec_program.specs.Machine as M
use Rattle.spec_program.specs.Machine.{over_in, is_over, start, steps, steps_text, finish_text}
use Rattle.spec_program.proofs.Joining.{last_text, last_join, last_ended, steps_join, finish_ended}
use Rattle.spec_program.proofs.Machine.{machine_output}
use Rattle.spec_program.proofs.Longest.{over_ended, longest_over}
use Rattle.stream_state.specs.declared.State.{State}
use Rattle.stream_state.specs.declared.Phase.{Phase}
use Rattle.stream_state.specs.State.{phase_of, state_of}
use Rattle.stream_turns.specs.Turns.{piece_size, turns, is_last, turns_left, turns_text}

pub over_by_phase : (s : State) {p : Phase} → s.phase ≡ p → is_over (state_of s) ≡ over_in (phase_of p)
unfolding is_over state_of
over_by_phase s e = ap (λ (p : Phase). over_in (phase_of p)) e

-- ---- they are enough

-- after `turns` full pieces the run has ended, whatever their bytes are
pub turns_over : (input : List ℕ) → turns * piece_size ≤ length input → T (is_over (steps start input))
turns_over input h = longest_over input (omega arith)

-- `left` full pieces end the run that is at s
abbrev Enough : ℕ → M.State → Type 0
Enough left s = (a : List ℕ) → left * piece_size ≤ length a → T (is_over (steps s a))

-- one turn: the piece it reads, the state that it leaves and the input that is left
module _ (left : ℕ) (s : M.State) (input : List ℕ) where
  abbrev piece : List ℕ
  piece = take piece_size input

  abbrev s' : M.State
  s' = steps s piece

  abbrev rest : List ℕ
  rest = drop piece_size input

  abbrev full : Bool
  full = eqb (length piece) piece_size

  -- in the text, as in the code, `turns_left` turns follow it
  pub text_turn : turns_text (suc left) s input ≡ steps_text s piece ++ turns_text (turns_left (suc left) true full (is_over s')) s' rest
  unfolding turns_text turns_left
  text_turn = ap (λ (t : List ℕ). steps_text s piece ++ t) (by_last (is_last true full (is_over s')))
    where
      by_last : (last : Bool) → cond last (finish_text s') (turns_text left s' rest) ≡ turns_text (cond last 0 (suc left - 1)) s' rest
      by_last true = refl
      by_last false = let e : left ≡ suc left - 1 = omega arith in ap (λ (k : ℕ). turns_text k s' rest) e

  module _ (enough : Enough (suc left) s) where
    -- after a full piece one turn less is enough
    less : full ≡ true → Enough left s'
    less e a h =
        let size = eqb-true (length piece) piece_size e in
        subst (λ (t : M.State). T (is_over t)) (steps_join s piece a) (enough (piece ++ a) (omega (arith, suc-mul left piece_size, length-append piece a, size)))

    -- nothing follows a short one
    none : full ≡ false → rest ≡ []
    none e =
        let short = eqb-false (length piece) piece_size e in
        drop_of_length-le input {i = piece_size} (omega (arith, length-take piece_size input))

    module _ (more : Enough left s' → turns_text left s' rest ≡ last_text s' rest) where
      follows : (f o : Bool) → full ≡ f → is_over s' ≡ o → cond (not f || o) (finish_text s') (turns_text left s' rest) ≡ last_text s' rest
      unfolding steps steps_text
      follows false o e g = ap (last_text s') (sym (none e))
      follows true true e g = let p = over_ended s' (true_test (is_over s') g) in finish_ended s' p ∙ sym (last_ended s' rest p)
      follows true false e g = more (less e)

      turn-text : turns_text (suc left) s input ≡ last_text s input
      unfolding turns_text
      turn-text =
          ap (λ (t : List ℕ). steps_text s piece ++ t) (follows full (is_over s') refl refl)
          ∙ sym (last_join s piece rest)
          ∙ ap (last_text s) (take-append-drop piece_size input)

enough_text : (left : ℕ) (s : M.State) (input : List ℕ) → Enough left s → turns_text left s input ≡ last_text s input
unfolding turns_text steps
enough_text zero s input enough =
    let p = over_ended s (enough [] (omega arith)) in
    finish_ended s p ∙ sym (last_ended s input p)
enough_text (suc left) s input enough = turn-text left s input enough (enough_text left (s' left s input) (rest left s input))

-- with `turns` turns the whole input is answered
pub turns-output : (input : List ℕ) → turns_text turns start input ≡ output input
turns-output input = enough_text turns start input turns_over ∙ machine_output input

-- What the end of input prints, by the code's state.
-- Assumes nothing.
use mathlib.Core.Path.{◌≡◌, ap, ◌∙◌}
use mathlib.Core.List.{[]}
use Prim.Native.Nat.{ℕ}
use native.Mathlib.Omega.{arith}
use lib.ListN.{length, take}
use lib.Seq.{length-take-le}
use Rattle.spec_program.specs.Line.{refusal_line}
use Rattle.spec_program.specs.Output.{piece_line}
use Rattle.spec_program.specs.Machine.{finish_text}
use Rattle.spec_program.proofs.Blocks.{piece_some}
use Rattle.spec_program.proofs.Joining.{finish_opening, finish_answering, finish_ended}
use Rattle.book.specs.declared.Params.{Params}
use Rattle.stream_state.specs.declared.State.{State}
use Rattle.stream_state.specs.declared.Phase.TheVariants.{Opening, Answering, Ended}
use Rattle.stream_state.specs.State.{phase_of, state_of, begun_came, Sized}

module _ (s : State) where
  pub finish_coming : s.phase ≡ Opening → finish_text (state_of s) ≡ refusal_line 1
  unfolding state_of
  finish_coming e = finish_opening (state_of s) (ap phase_of e)

  pub finish_over : s.phase ≡ Ended → finish_text (state_of s) ≡ []
  unfolding state_of
  finish_over e = finish_ended (state_of s) (ap phase_of e)

  begun-line : {c : Params} → s.phase ≡ Answering c → finish_text (state_of s) ≡ piece_line (length (begun_came s))
  unfolding state_of
  begun-line e = finish_answering (state_of s) (ap phase_of e)

  pub finish_none : {c : Params} → s.phase ≡ Answering c → s.held ≡ 0 → finish_text (state_of s) ≡ []
  finish_none e h = begun-line e ∙ ap (λ (k : ℕ). piece_line (length (take k s.begun))) h

  pub finish_piece : {c : Params} → Sized s → s.phase ≡ Answering c → (s.held ≡ 0 → ⊥) → finish_text (state_of s) ≡ refusal_line 9
  finish_piece z e h =
      let some = length-take-le s.held s.begun (omega arith) in
      begun-line e ∙ piece_some (length (begun_came s)) (omega arith)

-- A state from one piece to the next.
-- Assumes nothing.
use mathlib.Core.Path.{◌≡◌, sym, ap, ◌∙◌}
use mathlib.Core.List.{List, append-nil}
use Prim.Native.Nat.{ℕ}
use native.Mathlib.Omega.{arith}
use lib.ListN.{length, take, drop}
use lib.Seq.{take_all}
use Rattle.spec_program.specs.Machine as M
use Rattle.spec_program.specs.Machine.{ended, steps, steps_text}
use Rattle.spec_program.proofs.Joining.{steps_ended, steps_text_ended}
use Rattle.stream_text.proofs.Printing.{printed_none, printed_then}
use Rattle.stream_state.specs.declared.Phase.TheVariants.{Ended}
use Rattle.stream_state.specs.declared.State.{State}
use Rattle.stream_state.specs.State.{phase_of, state_of}
use Rattle.stream_state.specs.Stepping.{Steps}
use Rattle.stream_state.proofs.Pieces.{steps_split, steps_text_split}

-- ---- a piece in two parts

module _ {s s₁ : State} (piece : List ℕ) {out₀ mid : List ℕ} (at : ℕ) {end : ℕ} (first : Steps s (take at piece) out₀ 0 s₁ end mid) where
  -- the first is all
  pub steps_all : at ≡ length piece → Steps s piece out₀ 0 s₁ end mid
  steps_all e = rw (take_all at piece (omega arith)) at first

  -- the run ends with the first
  pub steps_over : s₁.phase ≡ Ended → Steps s piece out₀ 0 s₁ end mid
  unfolding state_of
  steps_over p =
      let over = ap phase_of p in
      record {
        state_is =
            sym
            (steps_split (state_of s) at piece
            ∙ ap (λ (m : M.State). steps m (drop at piece)) (sym first.state_is)
            ∙ steps_ended (state_of s₁) (drop at piece) over);
        text_is =
            rw (
              steps_text_split (state_of s) at piece,
              sym first.state_is,
              steps_text_ended (state_of s₁) (drop at piece) over,
              append-nil (steps_text (state_of s) (take at piece)),
            )
            first.text_is;
        within = first.within;
      }

  -- the second follows
  pub steps_then : {r : State} {end' : ℕ} {out : List ℕ} → Steps s₁ (drop at piece) mid end r end' out → Steps s piece out₀ 0 r end' out
  steps_then {r} {end'} {out} second =
      record {
        state_is =
            second.state_is ∙ sym (steps_split (state_of s) at piece ∙ ap (λ (m : M.State). steps m (drop at piece)) (sym first.state_is));
        text_is = rw (steps_text_split (state_of s) at piece, sym first.state_is) (printed_then first.text_is second.text_is);
        within = second.within;
      }

-- a run that has ended
pub steps_stay : (s : State) (piece out : List ℕ) → s.phase ≡ Ended → Steps s piece out 0 s 0 out
unfolding state_of
steps_stay s piece out p =
    record {
      state_is = sym (steps_ended (state_of s) piece (ap phase_of p));
      text_is = rw (steps_text_ended (state_of s) piece (ap phase_of p)) (printed_none out 0);
      within = omega arith;
    }

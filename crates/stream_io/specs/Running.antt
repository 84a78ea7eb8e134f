-- A run between two turns.
-- Assumes nothing.
use Rattle.std.specs.Prelude.{◌≡◌, List, ℕ, length}
use Rattle.stream_state.specs.declared.State.{State}
use Rattle.stream_state.specs.State.{Sound}
use Rattle.stream_state.specs.Stepping.{Rooms}

-- the state and the rooms are as a step asks, and the rooms for a piece and its text have kept their lengths
pub record Running (input₀ output₀ t terms answer entries input output : List ℕ) (s : State) : Type 0 where
  pub sound : Sound s t terms
  pub rooms : Rooms input answer entries output
  pub input_kept : length input ≡ length input₀
  pub output_kept : length output ≡ length output₀

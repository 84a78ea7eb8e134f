-- What a step over a piece asks and makes.
-- Assumes nothing.
use Rattle.std.specs.Prelude.{◌≡◌, List, ℕ, ◌+◌, ◌*◌, ◌≤◌, length}
use Rattle.spec_program.specs.Machine.{steps, steps_text}
use Rattle.stream_text.specs.Printed.{Printed}
use Rattle.stream_state.specs.declared.State.{State}
use Rattle.stream_state.specs.State.{state_of}

-- rooms for an answer, for a matrix and for the text of a piece: a line has at most 5 bytes for each symbol, and one word was begun before it
pub record Rooms (piece answer entries out : List ℕ) : Type 0 where
  pub answer_size : length answer ≡ 255
  pub entries_size : length entries ≡ 4080
  pub out_size : 6 * length piece + 1535 ≤ length out

-- from the state s the bytes `piece` make the state r, and print what stands in `out` from `at` to `end`
pub record Steps (s : State) (piece out₀ : List ℕ) (at : ℕ) (r : State) (end : ℕ) (out : List ℕ) : Type 0 where
  pub state_is : state_of r ≡ steps (state_of s) piece
  pub text_is : Printed out₀ at (steps_text (state_of s) piece) out end
  pub within : end ≤ length out

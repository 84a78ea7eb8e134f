-- `stream_state::start` meets its contract: no byte came, so the length field is still coming.
-- Assumes nothing.
use mathlib.Core.Path.{refl}
use mathlib.Core.List.{[]}
use native.Mathlib.Omega.{arith}
use Rattle.spec_program.proofs.Opening.{verdict_short_field}
use Rattle.stream_state.specs.State.{state_of}
use Rattle.stream_state.proofs.start.Goals as goal

pub returns : goal.returns
unfolding state_of
returns c = (
  refl,
  λ t terms table_size terms_size.
      record {
        sized =
            record {
              field_size = refl;
              book_size = refl;
              begun_size = refl;
              got_le = omega arith;
              came_le = omega arith;
              held_le = omega arith;
            };
        table_size = table_size;
        terms_size = terms_size;
        in_phase = record { coming = verdict_short_field [] [] (omega arith); fits = omega arith; none_counted = refl; none_held = refl };
      },
)

-- `stream_state::parts::whole_words` meets its contract.
-- Assumes nothing.
use native.Mathlib.Omega.{arith}
use Rattle.stream_state.proofs.parts.whole_words.Goals as goal

pub returns : goal.returns
returns c =
    record {
      left = omega (arith, c.min.ensures);
      right = omega (arith, c.min.ensures);
      reached = λ l. omega (arith, c.min.ensures);
    }

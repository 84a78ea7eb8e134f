-- `stream_state::parts::fill` meets its contract. The invariant: the first k bytes joined the part.
-- Assumes nothing.
use mathlib.Core.Path.{◌≡◌}
use native.Mathlib.Omega.{arith}
use Rattle.stream_state.proofs.Filling.{joined_none, joined_more}
use Rattle.stream_state.proofs.parts.fill.Goals as goal

pub loop-k-init : goal.loop-k-init
loop-k-init c = joined_none _ _ _

pub loop-k-preserved : goal.loop-k-preserved
loop-k-preserved c = joined_more c.loop-k.invariant (omega (arith, c.min-count.ensures)) (omega (arith, c.min-count.ensures))

pub returns : goal.returns
returns c =
    let all : c.loop-k.k ≡ c.min-count.result = omega arith in
    record {
      joined = rw all at c.loop-k.invariant;
      fits = omega (arith, c.min-count.ensures);
      all = λ l. omega (arith, c.min-count.ensures);
    }

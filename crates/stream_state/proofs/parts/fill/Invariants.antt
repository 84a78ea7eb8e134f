-- `stream_state::parts::fill` meets its contract. The invariant: the first k bytes joined the part.
-- Assumes nothing.
use Rattle.stream_state.specs.Part.{Joined}
use Rattle.stream_state.proofs.parts.fill.Given as goal

abbrev pub invariant-loop-k : goal.invariant-loop-k
invariant-loop-k l = Joined l.initial.part l.have l.bytes l.part l.k

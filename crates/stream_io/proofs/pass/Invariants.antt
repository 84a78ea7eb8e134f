-- The state and the rooms are as a step asks, and what was read so far is answered. The measure is the turns that are left.
use Rattle.std.proofs.Common.{length}
use Rattle.stream_io.specs.Running.{Running}
use Rattle.stream_io.proofs.Passing.{Passing}
use Rattle.stream_io.proofs.pass.Given as goal

abbrev pub invariant-loop-left : goal.invariant-loop-left
invariant-loop-left g l =
    Running l.initial.input l.initial.output l.t l.terms l.answer l.entries l.input l.output l.s
    × Passing (g.R.Read.remaining l.initial.reader) (g.R.Read.remaining l.reader) (g.W.Write.contents l.initial.writer) (g.W.Write.contents l.writer)
    (length l.initial.input) l.left l.s l.sent l.failed

abbrev pub decreases-loop-left : goal.decreases-loop-left
decreases-loop-left g l = l.left

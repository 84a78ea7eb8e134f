-- `stream_io::send` meets its contract. The invariant: what was written is the front of the text.
-- Assumes nothing.
use Rattle.std.proofs.Common.{arith, ◌≤◌, length, drop, subst, length-drop}
use Rattle.std.proofs.lemmas.List.{take_rest}
use Rattle.stream_io.proofs.Moving.{appends_more}
use Rattle.stream_io.proofs.send.Goals as goal

pub loop-count-preserved : goal.loop-count-preserved
loop-count-preserved g c =
    let text = c.args.text.now in
    let count = c.loop-count.count in
    let fits : c.in-Ok.n ≤ length (drop count text) = subst (λ l. c.in-Ok.n ≤ length l) (take_rest text count) c.in-Ok.ensures.bound in (
      omega (arith, fits, length-drop count text, c.loop-count.invariant.0),
      appends_more _ _ _ text count c.in-Ok.n c.loop-count.invariant.1 c.in-Ok.ensures.bytes,
    )

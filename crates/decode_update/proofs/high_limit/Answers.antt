-- `decode_update::high_limit` meets its contract.
-- Assumes nothing.
use native.Mathlib.Omega.{arith}
use Rattle.decode_update.proofs.Limits.{blocks_hold, limit_front, top_counts, high_end, high_all}
use Rattle.decode_update.proofs.high_limit.Goals as goal

pub returns-then-n-places : goal.returns-then-n-places
returns-then-n-places c = high_all _ _ _ c.if-n-places.true (omega arith)

pub limit-requires : goal.limit-requires
limit-requires c =
    let b = blocks_hold c.blocks-2.ensures (omega arith) in
    (c.widened.ensures.long, omega (arith, b.1), top_counts c.widened.ensures b.0 (omega arith) c.largest.ensures)

pub returns : goal.returns
returns c =
    let b = blocks_hold c.blocks-2.ensures (omega arith) in
    high_end _ _ _ c.if-n-places.false (limit_front c.widened.ensures b.0 b.1 (omega arith) c.limit.ensures)

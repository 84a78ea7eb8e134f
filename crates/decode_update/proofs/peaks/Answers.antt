-- `decode_update::peaks` meets its contract. The invariant: rows 1 to i - 1 are taken.
-- Assumes nothing.
use native.Mathlib.Omega.{arith}
use lib.Pow.{pow_pos}
use Rattle.decode_update.proofs.Climbing.{climbing_none, climbing_more}
use Rattle.decode_update.proofs.peaks.Goals as goal

pub loop-i-init : goal.loop-i-init
loop-i-init c =
    rw (c.requires.2, c.requires.3) (climbing_none (omega arith) (pow_pos c.args.p))

pub loop-i-preserved : goal.loop-i-preserved
loop-i-preserved c =
    climbing_more c.requires.1 (omega arith) c.loop-i.invariant c.take_row.ensures

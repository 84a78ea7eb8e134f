-- `decode_update::limit` meets its contract. The invariant: the limit is one of the `width` numbers from `least` on.
-- Assumes nothing.
use native.Mathlib.Omega.{arith}
use Rattle.decode_update.proofs.Search.{sought-after, sought-before}
use Rattle.decode_update.proofs.Limits.{low_falls, low-start, low_end}
use Rattle.decode_update.proofs.limit.Goals as goal
use Rattle.decode_update.proofs.limit.Goals.{then-at_most-most, else-at_most-most}

pub loop-width-init : goal.loop-width-init
loop-width-init c = low-start _ _ _ c.requires.2 (omega arith)

pub loop-width-preserved : goal.loop-width-preserved
loop-width-preserved c =
    let s = c.loop-width.invariant in
    let e = c.at_most.ensures in
    elim c.if-at_most-most.branch [
      | then-at_most-most w ↦ rw w.least-is (sought-after s (low_falls _ _ _) _ (omega arith) (omega arith) (omega (arith, e)))
      | else-at_most-most w ↦ rw w.least-is (sought-before s (low_falls _ _ _) _ (omega arith) (omega arith) (λ p. omega (arith, e)))
    ]

pub returns : goal.returns
returns c = low_end _ _ _ c.loop-width.invariant c.loop-width-test.false

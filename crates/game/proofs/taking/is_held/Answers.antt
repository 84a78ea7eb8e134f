-- `game::taking::is_held` meets its contract.
-- Assumes nothing.
use borrow.Author.Tests.{ne_eqb}
use Rattle.game.proofs.taking.is_held.Goals as goal

pub returns-then-kind-eq83 : goal.returns-then-kind-eq83
returns-then-kind-eq83 c = rw c.if-kind-eq83.true

pub returns-else-kind-eq83 : goal.returns-else-kind-eq83
returns-else-kind-eq83 c = rw (ne_eqb _ _ c.if-kind-eq83.false)

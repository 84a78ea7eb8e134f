-- `decode::exact` meets its contract.
-- Assumes nothing.
use mathlib.Core.Path.{ap}
use borrow.Author.Tests.{eq-eqb, ne_eqb}
use lib.Dec.{eqb}
use Rattle.decode.proofs.exact.Goals as goal

pub returns : goal.returns
returns c = rw (eq-eqb _ _ c.if-room-n.false) (ap (eqb c.args.entries) c.matrix_size.ensures)

pub returns-then-room-n : goal.returns-then-room-n
returns-then-room-n c = rw (ne_eqb _ _ c.if-room-n.true)

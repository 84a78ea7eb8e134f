-- `packing::pack_checked` meets its contract.
-- Assumes nothing.
use native.Mathlib.Omega.{arith}
use Rattle.packing.proofs.pack_checked.Goals as goal

pub returns-in-Ok : goal.returns-in-Ok
returns-in-Ok g c = rw c.in-Ok.is (omega (arith, c.from.ensures))

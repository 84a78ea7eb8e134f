-- `field_probe::pack_symbol` meets its contract.
-- Assumes nothing.
use native.Mathlib.Omega.{arith}
use Rattle.field_probe.proofs.pack_symbol.Goals as goal

pub returns-in-Ok : goal.returns-in-Ok
returns-in-Ok c = rw c.in-Ok.is (omega (arith, c.from.ensures))

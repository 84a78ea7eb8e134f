-- `packing::pack_decoded` meets its contract.
-- Assumes nothing.
use native.Mathlib.Omega.{arith}
use Rattle.packing.proofs.pack_decoded.Goals as goal

pub returns-in-Ok : goal.returns-in-Ok
returns-in-Ok g c = rw c.in-Ok.is (omega (arith, c.from.ensures, c.from-in-Ok.ensures, c.from-in-Ok-2.ensures, c.from-in-Ok-3.ensures))

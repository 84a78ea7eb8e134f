-- `packing::pack_game` meets its contract.
-- Assumes nothing.
use native.Mathlib.Omega.{arith}
use Rattle.packing.proofs.pack_game.Goals as goal

pub returns-in-Ok-Held : goal.returns-in-Ok-Held
returns-in-Ok-Held g c =
    rw (c.in-Ok-Held.is, rw c.in-Ok-Held.is at c.in-Ok-Held.field-0-is) (omega (arith, c.from-in-Ok-Held.ensures, c.from-in-Ok-Held-2.ensures))

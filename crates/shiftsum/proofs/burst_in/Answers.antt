-- `shiftsum::burst_in` meets its contract.
-- Assumes nothing.
use native.Mathlib.Omega.{arith}
use Rattle.shiftsum.proofs.Room.{lent, made_into}
use Rattle.shiftsum.proofs.burst_in.Goals as goal

pub whole_as_front-decode_burst : goal.whole_as_front-decode_burst
whole_as_front-decode_burst g c = (c.requires.fits _ c.matrix_bound-size.ensures, omega (arith, c.requires.most))

pub returns : goal.returns
returns g c = made_into _ _ _ _ _ (lent c.requires c.matrix_bound-size.ensures) c.decode_burst.ensures

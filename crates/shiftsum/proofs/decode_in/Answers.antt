-- `shiftsum::decode_in` meets its contract.
-- Assumes nothing.
use mathlib.Core.Path.{refl}
use native.Mathlib.Omega.{arith}
use Rattle.decode.specs.Decoded.{said}
use Rattle.packing.proofs.Refusing.{packed_said}
use Rattle.shiftsum.proofs.Room.{lent, decoded_into}
use Rattle.shiftsum.proofs.decode_in.Goals as goal

pub whole_as_front-decode : goal.whole_as_front-decode
whole_as_front-decode g c = (c.requires.fits _ c.matrix_bound-size.ensures, omega (arith, c.requires.most))

pub returns : goal.returns
returns g c = decoded_into _ _ _ (lent c.requires c.matrix_bound-size.ensures) c.decode.ensures (packed_said said (λ why. refl) _ c.pack_decoded.ensures)

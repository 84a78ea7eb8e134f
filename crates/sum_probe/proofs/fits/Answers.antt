-- `sum_probe::fits` meets its contract.
-- Assumes nothing.
use borrow.Author.Tests.{le-leb, lt-leb, eq-eqb, ne_eqb}
use Rattle.sum_probe.specs.Sum.{adds}
use Rattle.sum_probe.proofs.fits.Goals as goal

pub returns-then-room-gt255 : goal.returns-then-room-gt255
unfolding adds
returns-then-room-gt255 c = rw (lt-leb _ 255 c.if-room-gt255.true)

pub returns-then-a-room : goal.returns-then-a-room
unfolding adds
returns-then-a-room c = rw (le-leb _ 255 c.if-room-gt255.false, ne_eqb _ _ c.if-a-room.true)

pub returns : goal.returns
unfolding adds
returns c = rw (le-leb _ 255 c.if-room-gt255.false, eq-eqb _ _ c.if-a-room.false)

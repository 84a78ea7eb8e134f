-- `matrix_marks::fill_with` meets its contract: its rooms suffice, and are all zeros.
-- Assumes nothing.
use Rattle.matrix_marks.proofs.Tallying.{rooms}
use Rattle.matrix_marks.proofs.fill_with.Goals as goal

pub fill_in-requires : goal.fill_in-requires
fill_in-requires g c = (c.requires.0, c.requires.1, rooms c.requires.2)

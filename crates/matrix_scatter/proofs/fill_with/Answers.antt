-- `matrix_scatter::fill_with` meets its contract: its room suffices, and is all zeros.
-- Assumes nothing.
use Rattle.matrix_scatter.proofs.Whole.{cleared}
use Rattle.matrix_scatter.proofs.fill_with.Goals as goal

pub fill_by-requires : goal.fill_by-requires
fill_by-requires g c = (c.requires.0, c.requires.1, cleared c.requires.2)

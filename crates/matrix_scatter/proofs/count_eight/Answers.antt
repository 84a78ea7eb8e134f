-- `matrix_scatter::count_eight` meets its contract.
-- Assumes nothing.
use Rattle.matrix_scatter.proofs.Cells.{low_four, high-four, eight-end}
use Rattle.matrix_scatter.proofs.count_eight.Goals as goal

pub raise_four-requires : goal.raise_four-requires
raise_four-requires c = low_four c.requires

pub raise_four-requires-2 : goal.raise_four-requires-2
raise_four-requires-2 c = high-four c.requires c.raise_four.ensures

pub returns : goal.returns
returns c = eight-end c.requires c.raise_four.ensures c.raise_four-2.ensures

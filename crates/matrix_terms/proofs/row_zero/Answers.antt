-- `matrix_terms::row_zero` meets its contract.
-- Assumes nothing.
use Rattle.matrix_terms.proofs.RowLeft.{row_zero_in, row_zero_put}
use Rattle.matrix_terms.proofs.row_zero.Goals as goal

pub put_row-requires : goal.put_row-requires
put_row-requires c = (c.requires.0.n_high, row_zero_in c.requires.0 c.args.m.now c.requires.1)

pub returns : goal.returns
returns c = row_zero_put _ c.args.m.now _ c.rest-left.result c.requires.1 c.rest-left.ensures c.put_row.ensures

-- `matrix_scatter::raise` meets its contract.
-- Assumes nothing.
use Rattle.matrix_terms.proofs.Raised.{raised_one}
use Rattle.matrix_scatter.proofs.raise.Goals as goal

pub returns : goal.returns
returns c = raised_one _ _ c.requires.0

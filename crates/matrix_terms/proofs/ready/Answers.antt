-- `matrix_terms::ready` meets its contract: a weight that is not 0 shows that the terms are listed.
-- Assumes nothing.
use mathlib.Core.Path.{refl}
use Rattle.matrix_terms.proofs.Rows.{still_listed}
use Rattle.matrix_terms.proofs.ready.Goals as goal

pub returns-else-terms-eq0 : goal.returns-else-terms-eq0
returns-else-terms-eq0 c = (still_listed c.requires.2 c.if-terms-eq0.false, refl)

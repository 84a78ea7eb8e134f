-- `field::sum` meets its contract.
-- Assumes nothing.
use Rattle.std.proofs.lemmas.Result.{err_from_is_err_and}
use Rattle.refusal.proofs.Numbers.{refused_is, done_is}
use Rattle.field.proofs.sum.Goals as goal

pub returns-in_err-refusal : goal.returns-in_err-refusal
returns-in_err-refusal c =
    let p = err_from_is_err_and c.from_residual.result c.from_residual.ensures.1 in
    rw (p.1, p.2) (refused_is _ _ _ c.in_err-refusal.ensures)

pub returns : goal.returns
returns c = done_is _ _ c.in_ok-refusal.ensures

-- `field::inverse` meets its contract.
-- Assumes nothing.
use mathlib.Core.Path.{sym}
use Rattle.std.proofs.lemmas.Result.{err_from_is_err_and}
use Rattle.spec_field.proofs.Refusals.{accepted-inverse}
use Rattle.refusal.proofs.Numbers.{refused_is, done_is}
use Rattle.field.proofs.inverse.Goals as goal

pub returns-in_err-inverse_refusal : goal.returns-in_err-inverse_refusal
returns-in_err-inverse_refusal c =
    let p = err_from_is_err_and c.from_residual.result c.from_residual.ensures.1 in
    rw (p.1, p.2) (refused_is _ _ _ c.in_err-inverse_refusal.ensures)

pub inv-requires : goal.inv-requires
inv-requires c =
    let h = accepted-inverse _ _ (sym c.in_ok-inverse_refusal.ensures) in
    (h.0.low, h.0.high, h.1, h.0.left)

pub returns : goal.returns
returns c = rw c.inv.ensures.0 (done_is _ _ c.in_ok-inverse_refusal.ensures)

-- `field::product` meets its contract.
-- Assumes nothing.
use mathlib.Core.Path.{sym}
use native.Mathlib.Omega.{arith}
use Rattle.std.proofs.lemmas.Result.{err_from_is_err_and}
use Rattle.spec_field.proofs.Refusals.{accepted}
use Rattle.refusal.proofs.Numbers.{refused_is, done_is}
use Rattle.field.proofs.product.Goals as goal

pub returns-in_err-refusal : goal.returns-in_err-refusal
returns-in_err-refusal c =
    let p = err_from_is_err_and c.from_residual.result c.from_residual.ensures.1 in
    rw (p.1, p.2) (refused_is _ _ _ c.in_err-refusal.ensures)

pub mul-requires : goal.mul-requires
mul-requires c =
    let h = accepted _ _ _ (sym c.in_ok-refusal.ensures) in
    (h.low, h.high, omega (arith, h.left, h.right), omega (arith, h.left, h.right))

pub returns : goal.returns
returns c = rw c.mul.ensures.0 (done_is _ _ c.in_ok-refusal.ensures)

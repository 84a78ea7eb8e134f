-- `field::inverse_refusal` meets its contract.
-- Assumes nothing.
use mathlib.Core.Path.{sym}
use borrow.Author.Tests.{eq-eqb, ne_eqb}
use Rattle.std.proofs.lemmas.Result.{err_from_is_err_and}
use Rattle.spec_field.specs.Operations.{inverse_refusal}
use Rattle.refusal.proofs.Numbers.{first_is}
use Rattle.field.proofs.inverse_refusal.Goals as goal

pub returns-in_err-refusal : goal.returns-in_err-refusal
unfolding inverse_refusal
returns-in_err-refusal c =
    let p = err_from_is_err_and c.from_residual.result c.from_residual.ensures.1 in
    rw (p.1, p.2) (first_is _ _ _ c.in_err-refusal.ensures)

pub returns-then-a-eq0 : goal.returns-then-a-eq0
unfolding inverse_refusal
returns-then-a-eq0 c = simp (sym c.in_ok-refusal.ensures, eq-eqb _ _ c.if-a-eq0.true)

pub returns-else-a-eq0 : goal.returns-else-a-eq0
unfolding inverse_refusal
returns-else-a-eq0 c = simp (sym c.in_ok-refusal.ensures, ne_eqb _ _ c.if-a-eq0.false)

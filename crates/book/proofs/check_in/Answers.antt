-- `book::check_in` meets its contract.
-- Assumes nothing.
use Prim.Native.Nat.{ℕ}
use native.Mathlib.Omega.{arith}
use lib.ListN.{length-replicate}
use Rattle.std.proofs.lemmas.Result.{err_from_is_err_and}
use Rattle.refusal.proofs.Numbers.{refused_is}
use Rattle.book.proofs.Answering.{duals_high, counts_duals}
use Rattle.book.proofs.check_in.Goals as goal

pub open-requires : goal.open-requires
open-requires g c = omega (arith, c.requires.0, length-replicate {A = ℕ} g.row.TABLE 0)

pub returns-in_err-c : goal.returns-in_err-c
returns-in_err-c g c =
    let p = err_from_is_err_and c.from_residual.result c.from_residual.ensures.1 in
    rw (p.1, p.2) (refused_is _ _ _ c.in_err-c.ensures.0.0)

pub overflow_cast-result : goal.overflow_cast-result
overflow_cast-result g c = omega (arith, duals_high c.in_ok-c.ensures.0.0)

pub returns : goal.returns
returns g c = counts_duals c.in_ok-c.ensures.0.0

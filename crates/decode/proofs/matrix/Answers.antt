-- `decode::matrix` meets its contract.
-- Assumes nothing.
use mathlib.Core.Path.{refl}
use Rattle.std.proofs.lemmas.Result.{err_from_is_err_and}
use Rattle.refusal.proofs.Numbers.{number-not_zero}
use Rattle.spec_operations.proofs.Wrote.{wrote_refused}
use Rattle.book.proofs.Rooms.{any_room}
use Rattle.decode.proofs.Answering.{wrote_same, matrix_refused, matrix-accepted}
use Rattle.decode.proofs.matrix.Goals as goal

pub open-requires : goal.open-requires
open-requires c = any_room _ refl

pub matrix_word-requires : goal.matrix_word-requires
matrix_word-requires c = c.in_ok-c.ensures.0.0

pub returns-in_err-c : goal.returns-in_err-c
returns-in_err-c c =
    let p = err_from_is_err_and c.from_residual.result c.from_residual.ensures.1 in
    rw (p.1, p.2) (wrote_refused (matrix_refused _ _ _ c.in_err-c.ensures.0.0 _) (number-not_zero _))

pub returns : goal.returns
returns c = wrote_same (matrix-accepted _ _ c.in_ok-c.ensures.0.0.accepted _) c.matrix_word.ensures

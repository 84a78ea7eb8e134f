-- `decode::matrix_word` meets its contract.
-- Assumes nothing.
use mathlib.Core.Path.{sym, ap, ◌∙◌}
use native.Mathlib.Omega.{arith}
use lib.Dec.{eqb→eq}
use lib.ListN.{length}
use Rattle.std.proofs.lemmas.Result.{err_from_is_err_and}
use Rattle.refusal.proofs.Numbers.{number-not_zero}
use Rattle.spec_range.proofs.Loop.{padded-length}
use Rattle.spec_operations.proofs.Wrote.{wrote_refused, wrote_made}
use Rattle.sizes.proofs.Lengths.{blocks_high}
use Rattle.book.proofs.Described.{params_sizes}
use Rattle.matrix.proofs.Whole.{listable, filling, whole_steps, whole_few}
use Rattle.decode_rounds.proofs.Stepping.{params_fillable}
use Rattle.decode.proofs.Answering.{matrix_number, input, input-size, input-listed, loaded-stored, matrix_made}
use Rattle.decode.proofs.matrix_word.Goals as goal

pub returns : goal.returns
returns c =
    let d = c.requires in
    let asked = c.in_ok-refusal.ensures in
    wrote_made (sym (matrix_number _ _ d _ _ asked c.order.ensures c.matrix_size.ensures))
    (matrix_made _ _ d c.args.received.now (input-listed _ _ d c.args.received.now _ asked c.order.ensures) c.load-r.ensures
    (c.fill.ensures _ (params_fillable _ _ d) c.list.ensures.0))

pub matrix_size-requires : goal.matrix_size-requires
matrix_size-requires c = let s = params_sizes _ _ c.requires in (s.p_high, s.n_high)

pub order-requires : goal.order-requires
order-requires c = (params_sizes _ _ c.requires).p_high

pub returns-in_err-refusal : goal.returns-in_err-refusal
returns-in_err-refusal c =
    let p = err_from_is_err_and c.from_residual.result c.from_residual.ensures.1 in
    rw (p.1, p.2)
    (wrote_refused (matrix_number _ _ c.requires _ _ c.in_err-refusal.ensures c.order.ensures c.matrix_size.ensures) (number-not_zero _))

pub load-r-requires : goal.load-r-requires
load-r-requires c =
    ((params_sizes _ _ c.requires).n_high, omega (arith, input-size _ _ c.requires c.args.received.now _ c.in_ok-refusal.ensures c.order.ensures))

pub list-requires : goal.list-requires
list-requires c = (listable (params_fillable _ _ c.requires), omega (arith, blocks_high c.args.c.n))

pub fill-requires : goal.fill-requires
fill-requires c =
    let ok = params_fillable _ _ c.requires in (
      filling c.args.book.now c.list.ensures.0 (ap length c.load-r.ensures ∙ padded-length 255 _ _)
          (loaded-stored _ _ c.requires c.args.received.now _ c.in_ok-refusal.ensures c.order.ensures c.load-r.ensures)
          (eqb→eq _ _ (input _ _ c.requires c.args.received.now _ c.in_ok-refusal.ensures c.order.ensures).sizes ∙ c.matrix_size.ensures),
      whole_steps ok,
      whole_few ok,
    )

-- `stream_open::open_with` meets its contract: what joins the field and the codebook is what the machine takes.
-- Assumes nothing.
use mathlib.Core.Path.{sym, ◌∙◌}
use native.Mathlib.Omega.{arith}
use lib.ListN.{length-set}
use lib.Seq.{length-take-le, get_or-set_same}
use Rattle.stream_state.proofs.Pieces.{rest_is}
use Rattle.stream_state.proofs.Phases.{in_opening}
use Rattle.stream_open.proofs.Taking.{came_wanted, opens}
use Rattle.stream_open.proofs.open_with.Goals as goal

pub fill-body-requires : goal.fill-body-requires
fill-body-requires c =
    let came = came_wanted _ (in_opening _ _ _ c.requires.0 c.requires.1) c.requires.0.sized c.fill-head.ensures in
    (omega (arith, c.wanted-size.ensures.0), omega (arith, c.wanted-size.ensures.1))

pub slice_bounds-judge-end : goal.slice_bounds-judge-end
slice_bounds-judge-end c = sym (length-take-le _ _ (omega arith))

pub bounds-terms-0 : goal.bounds-terms-0
bounds-terms-0 c = omega (arith, c.requires.0.terms_size)

pub overflow_add-result : goal.overflow_add-result
overflow_add-result c = omega (arith, c.fill-body.ensures.joined.within, c.fill-head.ensures.joined.within)

pub returns : goal.returns
returns c =
    opens _ (in_opening _ _ _ c.requires.0 c.requires.1) c.requires.0.sized c.fill-head.ensures c.requires.1 c.wanted-size.ensures.0
    c.wanted-size.ensures.1 (rw (rest_is c.args.piece.now c.fill-head.result) at c.fill-body.ensures) _ _ c.phase_told.ensures
    c.judge-told.ensures c.put_told-end.ensures.0 c.put_told-end.ensures.1 c.requires.2
    (omega (arith, c.requires.0.table_size)) (length-set c.args.terms.now 0 0 ∙ c.requires.0.terms_size)
    (get_or-set_same c.args.terms.now 0 0 0 (omega (arith, c.requires.0.terms_size)))

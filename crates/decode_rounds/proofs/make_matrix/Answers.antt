-- `decode_rounds::make_matrix` meets its contract.
-- Assumes nothing.
use borrow.Author.Rules.{rules}
use Rattle.matrix.proofs.Whole.{filling, whole_steps, whole_few}
use Rattle.decode_rounds.proofs.Stepping.{params_fillable}
use Rattle.decode_rounds.proofs.make_matrix.Goals as goal

pub returns : goal.returns
returns c bytes d terms = c.fill.ensures bytes (params_fillable bytes _ d) terms

pub fill-requires : goal.fill-requires
fill-requires c =
    let h = c.requires in
    let ok = params_fillable _ _ h.describes in
    (filling h.bytes h.terms_are (search rules) h.word h.size, whole_steps ok, whole_few ok)

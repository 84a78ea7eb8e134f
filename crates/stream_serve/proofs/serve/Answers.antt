-- `stream_serve::serve` meets its contract: the parts that are lent have the exact sizes, and the words are the state's.
-- Assumes nothing.
use mathlib.Core.Path.{sym, ◌∙◌}
use native.Mathlib.Omega.{arith}
use lib.Seq.{length-take-le}
use Rattle.book.proofs.Described.{params_sizes, params_room}
use Rattle.stream_serve.proofs.Resuming.{serving, from_going, serves}
use Rattle.stream_serve.proofs.serve.Goals as goal

pub matrix_size-size-requires : goal.matrix_size-size-requires
matrix_size-size-requires c =
    let sizes = params_sizes _ _ (serving _ _ _ _ c.requires.0 c.requires.1).describes in
    (sizes.p_high, sizes.n_high)

pub slice_bounds-answer-end : goal.slice_bounds-answer-end
slice_bounds-answer-end c = sym (length-take-le _ _ (omega (arith, c.requires.0.sized)))

pub slice_bounds-answer-end-2 : goal.slice_bounds-answer-end-2
slice_bounds-answer-end-2 c = omega (arith, (params_sizes _ _ (serving _ _ _ _ c.requires.0 c.requires.1).describes).n_high)

pub slice_bounds-answer-end-3 : goal.slice_bounds-answer-end-3
slice_bounds-answer-end-3 c =
    sym (length-take-le _ _ (omega (arith, (params_sizes _ _ (serving _ _ _ _ c.requires.0 c.requires.1).describes).n_high)))

pub slice_bounds-answer-end-4 : goal.slice_bounds-answer-end-4
slice_bounds-answer-end-4 c =
    omega (arith, params_room _ _ (serving _ _ _ _ c.requires.0 c.requires.1).describes, c.matrix_size-size.ensures)

pub slice_bounds-answer-end-5 : goal.slice_bounds-answer-end-5
slice_bounds-answer-end-5 c =
    sym
    (length-take-le _ _
    (omega (arith, params_room _ _ (serving _ _ _ _ c.requires.0 c.requires.1).describes, c.matrix_size-size.ensures)))

pub answer-done-requires : goal.answer-done-requires
answer-done-requires c =
    let opened = serving _ _ _ _ c.requires.0 c.requires.1 in (
      record {
        describes = opened.describes;
        table_is = opened.table_is;
        terms_are = opened.terms_are;
        answer_size = length-take-le _ _ (omega (arith, (params_sizes _ _ opened.describes).n_high));
        matrix_size =
            length-take-le _ _ (omega (arith, params_room _ _ opened.describes, c.matrix_size-size.ensures)) ∙ c.matrix_size-size.ensures;
      },
      from_going _ _ _ _ c.requires.0 c.requires.1 c.args.«end»,
      opened.count_lt,
      c.requires.4,
    )

pub returns : goal.returns
returns c =
    serves _ _ _ _ c.requires.0 c.requires.1 c.answer-done.ensures c.resumed.ensures c.requires.4 (omega (arith, c.requires.0.terms_size))

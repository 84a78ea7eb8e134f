-- `stream_serve::put_row` meets its contract: the row is full, or what is left begins a word.
-- Assumes nothing.
use mathlib.Core.Path.{sym}
use native.Mathlib.Omega.{arith}
use lib.Seq.{length-take-le}
use Rattle.book.proofs.Described.{params_sizes}
use Rattle.stream_state.proofs.Pieces.{rest_is}
use Rattle.stream_serve.proofs.Rows.{row_fits, row-full, row-rest}
use Rattle.stream_serve.proofs.put_row.Goals as goal

pub whole_words-words-requires : goal.whole_words-words-requires
whole_words-words-requires c = (omega arith, omega (arith, c.requires.1.held_lt))

pub overflow_mul-size : goal.overflow_mul-size
overflow_mul-size c = omega (arith, row_fits c.args.c.n c.args.piece.now c.whole_words-words.ensures)

pub slice_bounds-put_words-end : goal.slice_bounds-put_words-end
slice_bounds-put_words-end c = sym (length-take-le _ _ (row_fits c.args.c.n c.args.piece.now c.whole_words-words.ensures))

pub put_words-end-requires : goal.put_words-end-requires
put_words-end-requires c =
    let fits = row_fits c.args.c.n c.args.piece.now c.whole_words-words.ensures in
    (c.requires.0, length-take-le _ _ fits, omega (arith, length-take-le _ c.args.piece.now fits))

pub returns-then-count-eq-MOST : goal.returns-then-count-eq-MOST
returns-then-count-eq-MOST c =
    row-full _ _ c.requires.0.describes _ c.requires.3 _ c.requires.2 c.requires.1 c.whole_words-words.ensures c.put_words-end.ensures.0
    c.put_words-end.ensures.1 c.put_words-end.ensures.2 c.if-count-eq-MOST.true

pub slice_bounds-fill-count : goal.slice_bounds-fill-count
slice_bounds-fill-count c = omega (arith, row_fits c.args.c.n c.args.piece.now c.whole_words-words.ensures)

pub fill-held-requires : goal.fill-held-requires
fill-held-requires c =
    (omega arith, omega (arith, c.requires.1.begun_size, (params_sizes _ _ c.requires.0.describes).n_high))

pub returns : goal.returns
returns c =
    row-rest _ _ c.requires.0.describes _ c.requires.3 _ c.requires.2 c.requires.1 c.whole_words-words.ensures c.put_words-end.ensures.0
    c.put_words-end.ensures.1 c.put_words-end.ensures.2 c.if-count-eq-MOST.false (rw (rest_is c.args.piece.now _) at c.fill-held.ensures)

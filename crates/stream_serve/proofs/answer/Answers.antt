-- `stream_serve::answer` meets its contract: a begun word is still short, or is whole and a row follows.
-- Assumes nothing.
use mathlib.Core.Path.{refl, sym}
use native.Mathlib.Omega.{arith}
use lib.ListN.{length-drop}
use lib.Seq.{length-take-le}
use Rattle.book.proofs.Described.{params_sizes}
use Rattle.stream_words.proofs.Blocks.{word_low}
use Rattle.stream_state.proofs.Pieces.{rest_is}
use Rattle.stream_serve.proofs.Rows.{word-short, word-last, next-going, word_row}
use Rattle.stream_serve.proofs.answer.Goals as goal

pub fill-more-requires : goal.fill-more-requires
fill-more-requires c =
    (omega (arith, c.requires.1.held_lt), omega (arith, c.requires.1.begun_size, (params_sizes _ _ c.requires.0.describes).n_high))

pub returns-then-held-n : goal.returns-then-held-n
returns-then-held-n c =
    word-short _ _ c.requires.0.describes _ c.requires.2 _ c.requires.1 c.fill-more.ensures c.if-held-n.true c.requires.0.terms_are

pub slice_bounds-begun-end : goal.slice_bounds-begun-end
slice_bounds-begun-end c = omega (arith, (params_sizes _ _ c.requires.0.describes).n_high)

pub slice_bounds-put_word-end : goal.slice_bounds-put_word-end
slice_bounds-put_word-end c =
    sym
    (length-take-le _ _
    (omega (arith, c.fill-more.ensures.joined.kept, c.requires.1.begun_size, (params_sizes _ _ c.requires.0.describes).n_high)))

pub put_word-end-requires : goal.put_word-end-requires
put_word-end-requires c =
    (c.requires.0, omega (arith, c.requires.3, c.if-held-n.false, c.fill-more.ensures.joined.within, word_low _ _ c.requires.0.describes))

pub returns-then-next-eq-MOST : goal.returns-then-next-eq-MOST
returns-then-next-eq-MOST c =
    word-last _ _ c.requires.0.describes _ c.requires.2 _ c.requires.1 c.fill-more.ensures c.if-held-n.false c.put_word-end.ensures.0
    c.put_word-end.ensures.1 c.if-next-eq-MOST.true c.put_word-end.ensures.2

pub put_row-requires : goal.put_row-requires
put_row-requires c =
    let ready = c.requires.0 in (
      record {
        describes = ready.describes;
        table_is = ready.table_is;
        terms_are = c.put_word-end.ensures.2;
        answer_size = omega (arith, ready.answer_size, c.put_word-end.auto);
        matrix_size = omega (arith, ready.matrix_size, c.put_word-end.auto);
      },
      next-going _ _ ready.describes _ c.requires.2 _ c.requires.1 c.fill-more.ensures c.if-held-n.false c.put_word-end.ensures.0
          c.put_word-end.ensures.1,
      refl,
      omega (arith, c.if-next-eq-MOST.false, c.requires.2),
      rw (rest_is c.args.piece.now c.fill-more.result)
          (omega (
            arith,
            length-drop c.fill-more.result c.args.piece.now,
            c.put_word-end.ensures.1,
            c.put_word-end.auto,
            word_low _ _ ready.describes,
            c.requires.3,
            c.fill-more.ensures.fits,
            c.fill-more.ensures.joined.within,
            c.if-held-n.false,
          )),
    )

pub returns : goal.returns
returns c =
    word_row _ _ c.requires.0.describes _ c.requires.2 _ c.requires.1 c.fill-more.ensures c.if-held-n.false c.put_word-end.ensures.0
    c.put_word-end.ensures.1 (rw (rest_is c.args.piece.now c.fill-more.result) at c.put_row.ensures)

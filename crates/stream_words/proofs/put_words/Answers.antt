-- `stream_words::put_words` meets its contract. The invariant: the lines that are written, and those of what is left, are all.
-- Assumes nothing.
use mathlib.Core.Path.{refl, sym, ap, ◌∙◌}
use mathlib.Core.List.{List, [], ◌++◌, append_assoc, append-nil}
use Prim.Native.Nat.{pred}
use native.Mathlib.Omega.{arith}
use Rattle.stream_text.proofs.Printing.{printed_none, printed_then}
use Rattle.stream_words.proofs.Blocks.{word_low, row_length, left_next, lines_next, lines_end}
use Rattle.stream_words.proofs.put_words.Goals as goal

pub chunks_exact-word-items-requires : goal.chunks_exact-word-items-requires
chunks_exact-word-items-requires c = omega (arith, word_low _ _ c.requires.0.describes)

pub loop-word-init : goal.loop-word-init
loop-word-init c =
    rw (c.into_iter-word-iterator.ensures.into_iter_gives, c.chunks_exact-word-items.ensures.rest, c.chunks_exact-word-items.ensures.size) (
      omega (arith, word_low _ _ c.requires.0.describes),
      tt,
      refl,
      record {
        ready = c.requires.0;
        left = c.args.count;
        whole = c.requires.1;
        text = [];
        lines = printed_none _ _;
        all = refl;
        room = omega arith;
      },
    )

pub loop-word-preserved : goal.loop-word-preserved
loop-word-preserved c =
    let row = c.loop-word.invariant.3 in
    let cut = c.in-Some.ensures.steps.1.0 in
    let size = c.in-Some.ensures.steps.1.1 ∙ c.loop-word.invariant.2 in
    let d = row.ready.describes in
    let low = word_low _ _ d in
    let line = c.put_word-next.ensures in (
      omega arith,
      tt,
      c.in-Some.ensures.steps.0 ∙ c.loop-word.invariant.2,
      record {
        ready = record {
          describes = d;
          table_is = row.ready.table_is;
          terms_are = line.2;
          answer_size = omega (arith, row.ready.answer_size);
          matrix_size = omega (arith, row.ready.matrix_size);
        };
        left = pred row.left;
        whole = left_next _ _ d _ _ cut size row.left row.whole;
        text = row.text ++ _;
        lines = printed_then row.lines line.0;
        all = row.all
            ∙ ap (λ (lines : List _). row.text ++ lines) (lines_next _ _ d _ _ cut size row.left row.whole)
            ∙ sym (append_assoc row.text _ _);
        room = omega (arith, row_length _ _ d _ _ cut size, row.room);
      },
    )

pub put_word-next-requires : goal.put_word-next-requires
put_word-next-requires c =
    let row = c.loop-word.invariant.3 in
    let word = c.in-Some.ensures.steps.1 in
    let d = row.ready.describes in
    (row.ready, omega (arith, word_low _ _ d, row_length _ _ d _ _ word.0 (word.1 ∙ c.loop-word.invariant.2), row.room))

pub returns : goal.returns
returns c =
    let row = c.loop-word.invariant.3 in
    let none = lines_end _ _ row.ready.describes row.left _ (omega (arith, c.in-None.ensures.steps)) row.whole in
    (rw (row.all, none, append-nil) row.lines, omega (arith, row.room), row.ready.terms_are)

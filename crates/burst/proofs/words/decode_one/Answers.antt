-- `burst::words::decode_one` meets its contract.
-- Assumes nothing.
use mathlib.Core.Path.{sym}
use native.Mathlib.Nat.{le_of_eq}
use native.Mathlib.Omega.{arith}
use lib.Seq.{length-take-le}
use Rattle.book.proofs.Described.{params_sizes}
use Rattle.burst.proofs.Word.{room_for, word_is, not_refused, says_values, decoded_word}
use Rattle.burst.proofs.words.decode_one.Goals as goal

pub unmix-w-requires : goal.unmix-w-requires
unmix-w-requires c =
    let h = c.requires in
    ((params_sizes _ _ h.0).n_high, h.3.high, omega (arith, h.4), le_of_eq (sym h.3.size))

pub slice_bounds-w-end : goal.slice_bounds-w-end
slice_bounds-w-end c =
    room_for _ _ (params_sizes _ _ c.requires.0).n_high c.unmix-w.ensures

pub slice_bounds-decode_word-end : goal.slice_bounds-decode_word-end
slice_bounds-decode_word-end c =
    sym (length-take-le _ _
    (room_for _ _ (params_sizes _ _ c.requires.0).n_high c.unmix-w.ensures))

pub decode_word-requires : goal.decode_word-requires
decode_word-requires c =
    let h = c.requires in (h.0, h.1, h.2)

pub unwrap-told-requires : goal.unwrap-told-requires
unwrap-told-requires c =
    let h = c.requires in
    not_refused _
    (says_values _ _ h.0 _ _ h.3 h.4 _ _ _ _ (word_is _ _ h.0 _ _ h.3 h.4 c.unmix-w.ensures) c.decode_word.ensures.0 h.5 h.6)

pub returns : goal.returns
returns c =
    let h = c.requires in (
      decoded_word _ _ h.0 _ _ h.3 h.4 _ _ _ _ (word_is _ _ h.0 _ _ h.3 h.4 c.unmix-w.ensures) c.decode_word.ensures.0 h.5 h.6 c.unwrap-told.ensures
          c.from.ensures,
      c.decode_word.ensures.1,
    )

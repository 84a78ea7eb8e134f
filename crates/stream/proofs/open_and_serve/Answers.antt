-- `stream::open_and_serve` meets its contract: the opening takes all of the piece, or ends the run, or words follow.
-- Assumes nothing.
use native.Mathlib.Omega.{arith}
use lib.ListN.{length-drop}
use Rattle.stream_state.proofs.Pieces.{rest_is}
use Rattle.stream.proofs.Passing.{steps_all, steps_over, steps_then}
use Rattle.stream.proofs.open_and_serve.Goals as goal

pub serve-requires : goal.serve-requires
serve-requires c =
    let taken = c.open_with-taken.ensures in
    let at = c.open_with-taken.result.at in (
      taken.sound,
      c.in-Answering.is,
      c.requires.2.answer_size,
      c.requires.2.entries_size,
      rw (rest_is c.args.piece.now at)
          (omega (
            arith,
            length-drop at c.args.piece.now,
            taken.end_le,
            taken.sound.sized.held_le,
            taken.within,
            c.requires.2.out_size,
            c.open_with-taken.auto,
          )),
    )

pub returns-in-Opening : goal.returns-in-Opening
returns-in-Opening c =
    let taken = c.open_with-taken.ensures in
    (steps_all _ _ taken.steps_are (taken.all c.in-Opening.is), taken.sound)

pub returns-in-Answering : goal.returns-in-Answering
returns-in-Answering c =
    let rest = rw (rest_is c.args.piece.now c.open_with-taken.result.at) at c.serve.ensures.0 in
    (steps_then _ _ c.open_with-taken.ensures.steps_are rest, c.serve.ensures.1)

pub returns-in-Ended : goal.returns-in-Ended
returns-in-Ended c =
    let taken = c.open_with-taken.ensures in
    (steps_over _ _ taken.steps_are c.in-Ended.is, taken.sound)

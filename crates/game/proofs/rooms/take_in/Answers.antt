-- `game::rooms::take_in` meets its contract.
-- Assumes nothing.
use Prim.Native.Nat.{ℕ}
use native.Mathlib.Omega.{arith}
use lib.ListN.{length-replicate}
use Rattle.std.proofs.lemmas.Result.{err_from_is_err_and}
use Rattle.decode.proofs.Answering.{listed_room}
use Rattle.game.proofs.Answering.{games_refused, games_same, game_accepted, game_refused}
use Rattle.game.proofs.Room.{answers_room, matrix_room}
use Rattle.game.proofs.rooms.take_in.Goals as goal

pub open-requires : goal.open-requires
open-requires g c = omega (arith, c.requires.rooms_fit.table_fits, length-replicate {A = ℕ} g.row.TABLE_ROOM 0)

pub game_words-requires : goal.game_words-requires
game_words-requires g c =
    let h = c.in_ok-c.ensures.0 in
    (h.0, h.1, listed_room c.requires.rooms_fit h.0, answers_room c.requires, matrix_room c.requires)

pub returns-in_err-c : goal.returns-in_err-c
returns-in_err-c g c =
    let p = err_from_is_err_and c.from_residual.result c.from_residual.ensures.1 in
    rw (p.1, p.2) (games_refused _ _ _ _ _ (game_refused _ _ _ _ _ c.in_err-c.ensures.0.0))

pub returns : goal.returns
returns g c = games_same (game_accepted _ _ _ _ c.in_ok-c.ensures.0.0.accepted) c.game_words.ensures

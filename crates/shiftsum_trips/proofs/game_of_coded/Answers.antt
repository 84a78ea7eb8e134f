-- `shiftsum_trips::game_of_coded` meets its contract: what the call ensures, and the law about coded messages.
-- Assumes nothing.
use Rattle.shiftsum_trips.proofs.Whole.{whole_over_c}
use Rattle.shiftsum_trips.proofs.game_of_coded.Goals as goal

pub returns : goal.returns
returns c =
    let game = c.shiftsum_game.ensures in
    let a = c.args in
    record { returns_game = game; given_back = whole_over_c a.book.now a.words a.received.now a.messages.now game }

-- `game_trips::burst_then_game` meets its contract: what each call ensures, and what the burst tells of the game, by the law of the definitions.
-- Assumes nothing.
use Rattle.game_trips.proofs.OfBurst.{game_of_burst}
use Rattle.game_trips.proofs.burst_then_game.Goals as goal

pub returns : goal.returns
returns c =
    let a = c.args in
    let first = c.decode_burst-first.ensures in
    let second = c.take-second.ensures in
    record { answered = first; games = second; game_of_burst = game_of_burst _ _ _ a.answers.now a.entries.now a.messages.now _ first second }

-- `game_trips::send_then_game` meets its contract: what each call ensures, and that the messages come back, by the law of the definitions.
-- Assumes nothing.
use Rattle.game_trips.proofs.Coded.{back_whole}
use Rattle.game_trips.proofs.send_then_game.Goals as goal

pub returns : goal.returns
returns c =
    let first = c.send-first.ensures in
    let second = c.take-second.ensures in
    record { wrote = first; games = second; back_whole = λ z e. back_whole _ _ _ _ z first second e }

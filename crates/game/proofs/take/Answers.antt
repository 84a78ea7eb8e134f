-- `game::take` meets its contract: the rooms are what the book asks.
-- Assumes nothing.
use mathlib.Core.Path.{sym}
use Rattle.game.proofs.Room.{short_few, short_any, long_few, long_any}
use Rattle.game.proofs.take.Goals as goal

pub take_in-requires : goal.take_in-requires
take_in-requires c = long_few _ (sym c.if-few.ensures)

pub take_in-requires-then-is_long : goal.take_in-requires-then-is_long
take_in-requires-then-is_long c = long_any _

pub take_in-requires-then-few-2 : goal.take_in-requires-then-few-2
take_in-requires-then-few-2 c = short_few _ (sym c.if-is_long.ensures) (sym c.if-few-2.ensures)

pub take_in-requires-2 : goal.take_in-requires-2
take_in-requires-2 c = short_any _ (sym c.if-is_long.ensures)

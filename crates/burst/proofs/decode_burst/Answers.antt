-- `burst::decode_burst` meets its contract: the rooms are what opening asks for.
-- Assumes nothing.
use mathlib.Core.Path.{sym}
use Rattle.decode.proofs.Rooms.{short_few, short_any, long_few, long_any}
use Rattle.burst.proofs.decode_burst.Goals as goal

pub burst_in-requires : goal.burst_in-requires
burst_in-requires c = long_few _ (sym c.if-few.ensures)

pub burst_in-requires-then-is_long : goal.burst_in-requires-then-is_long
burst_in-requires-then-is_long c = long_any _

pub burst_in-requires-then-few-2 : goal.burst_in-requires-then-few-2
burst_in-requires-then-few-2 c = short_few _ (sym c.if-is_long.ensures) (sym c.if-few-2.ensures)

pub burst_in-requires-2 : goal.burst_in-requires-2
burst_in-requires-2 c = short_any _ (sym c.if-is_long.ensures)

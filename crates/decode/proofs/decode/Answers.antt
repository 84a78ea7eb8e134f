-- `decode::decode` meets its contract: the rooms are what opening asks for.
-- Assumes nothing.
use mathlib.Core.Path.{sym}
use Rattle.decode.proofs.Rooms.{short_few, short_any, long_few, long_any}
use Rattle.decode.proofs.decode.Goals as goal

pub decode_in-requires : goal.decode_in-requires
decode_in-requires c = long_few _ (sym c.if-few.ensures)

pub decode_in-requires-then-is_long : goal.decode_in-requires-then-is_long
decode_in-requires-then-is_long c = long_any _

pub decode_in-requires-then-few-2 : goal.decode_in-requires-then-few-2
decode_in-requires-then-few-2 c = short_few _ (sym c.if-is_long.ensures) (sym c.if-few-2.ensures)

pub decode_in-requires-2 : goal.decode_in-requires-2
decode_in-requires-2 c = short_any _ (sym c.if-is_long.ensures)

-- `shiftsum::shiftsum_decode` meets its contract: the room is what the book asks.
-- Assumes nothing.
use mathlib.Core.Path.{sym}
use Rattle.shiftsum.proofs.Room.{any_matrix, few_matrix, few_short_matrix}
use Rattle.shiftsum.proofs.shiftsum_decode.Goals as goal

pub decode_in-requires : goal.decode_in-requires
decode_in-requires c = few_matrix _ (sym c.if-few.ensures)

pub decode_in-requires-then-is_long : goal.decode_in-requires-then-is_long
decode_in-requires-then-is_long c = any_matrix _

pub decode_in-requires-then-few-2 : goal.decode_in-requires-then-few-2
decode_in-requires-then-few-2 c = few_short_matrix _ (sym c.if-few-2.ensures) (sym c.if-is_long.ensures)

pub decode_in-requires-2 : goal.decode_in-requires-2
decode_in-requires-2 c = any_matrix _

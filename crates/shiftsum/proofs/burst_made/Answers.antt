-- `shiftsum::burst_made` meets its contract: the room is what the book asks.
-- Assumes nothing.
use mathlib.Core.Path.{sym}
use Rattle.shiftsum.proofs.Room.{any_matrix, few_matrix, few_short_matrix}
use Rattle.shiftsum.proofs.burst_made.Goals as goal

pub burst_in-requires : goal.burst_in-requires
burst_in-requires c = few_matrix _ (sym c.if-few.ensures)

pub burst_in-requires-then-is_long : goal.burst_in-requires-then-is_long
burst_in-requires-then-is_long c = any_matrix _

pub burst_in-requires-then-few-2 : goal.burst_in-requires-then-few-2
burst_in-requires-then-few-2 c = few_short_matrix _ (sym c.if-few-2.ensures) (sym c.if-is_long.ensures)

pub burst_in-requires-2 : goal.burst_in-requires-2
burst_in-requires-2 c = any_matrix _

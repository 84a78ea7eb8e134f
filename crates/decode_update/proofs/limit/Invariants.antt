-- `decode_update::limit` meets its contract. The invariant: the limit is one of the `width` numbers from `least` on.
-- Assumes nothing.
use Prim.Native.Nat.{◌*◌}
use Rattle.decode_update.proofs.Search.{Sought}
use Rattle.decode_update.proofs.Limits.{Low}
use Rattle.decode_update.proofs.limit.Given as goal

abbrev pub invariant-loop-width : goal.invariant-loop-width
invariant-loop-width l = Sought 65536 (Low (64 * l.blocks) l.most l.row) l.least l.width

abbrev pub decreases-loop-width : goal.decreases-loop-width
decreases-loop-width l = l.width

-- `book_duals::packed::vanish_with` meets its contract: a room is as long as its number says.
-- Assumes nothing.
use Prim.Native.Nat.{ℕ}
use lib.ListN.{length-replicate}
use Rattle.spec_range.proofs.Loop.{zero_at}
use Rattle.book_duals.proofs.packed.vanish_with.Goals as goal

pub vanish_in-requires : goal.vanish_in-requires
vanish_in-requires g c =
    let s = c.requires in
    rw (length-replicate {A = ℕ} g.row.TABLE 0, length-replicate {A = ℕ} g.row.PLACES 0)
    (s.0, s.1, s.2, s.3, s.3, λ j d. zero_at g.row.PLACES j)

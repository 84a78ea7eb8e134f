-- `stream_io::take_piece` meets its contract. The invariant: what was read stands at the front of the piece.
-- Assumes nothing.
use Rattle.std.proofs.Common.{rules, arith, ◌≡◌, ◌-◌, length}
use borrow.Rule.Slice.PartMut.{same_len_mid}
use Rattle.stream_io.proofs.Moving.{consumes_more}
use Rattle.stream_io.proofs.take_piece.Goals as goal

pub loop-count-preserved : goal.loop-count-preserved
loop-count-preserved g c =
    let piece = c.loop-count.piece in
    let part = c.read.new.buf in
    let count = c.loop-count.count in
    let within = c.loop-count.invariant.0 in
    let room : length part ≡ length piece - count = search rules in
    let same = same_len_mid count (length piece - count) piece part c.read.auto.buf in (
      omega (arith, same, room, within, c.in-Ok.ensures.bound.0),
      consumes_more count piece part within _ _ _ c.in-Ok.n c.in-Ok.ensures.bound.0 c.loop-count.invariant.1 c.in-Ok.ensures.bytes.0,
    )

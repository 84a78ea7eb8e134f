-- `stream_text::put_hex` meets its contract. The invariant: the digits of the first i bytes are written.
-- Assumes nothing.
use mathlib.Core.Path.{◌≡◌}
use native.Mathlib.Omega.{arith}
use lib.ListN.{length}
use lib.Seq.{take-length}
use Rattle.spec_program.specs.Line.{hex_of}
use Rattle.stream_text.proofs.Hex.{hex_of_suc}
use Rattle.stream_text.proofs.Printing.{printed_none, printed_then}
use Rattle.stream_text.proofs.put_hex.Goals as goal

pub loop-i-init : goal.loop-i-init
unfolding hex_of
loop-i-init c = (omega arith, printed_none _ _)

pub loop-i-preserved : goal.loop-i-preserved
loop-i-preserved c =
    let digits = printed_then (rw c.digit.ensures at c.put-high.ensures) (rw c.digit-in-loop-i.ensures at c.put-next.ensures) in
    (omega arith, rw (hex_of_suc c.args.bytes.now c.loop-i.i (omega arith)) (printed_then c.loop-i.invariant.1 digits))

pub returns : goal.returns
returns c =
    let all : c.loop-i.i ≡ length c.args.bytes.now = omega arith in
    record { printed = rw (all, take-length) at c.loop-i.invariant.1; value = omega arith }

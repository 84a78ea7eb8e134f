-- `stream_text::put_answer` meets its contract: eight runs, one after the other.
-- Assumes nothing.
use native.Mathlib.Omega.{arith}
use Rattle.spec_program.specs.Line.{answer_line}
use Rattle.stream_text.proofs.Printing.{printed_then}
use Rattle.stream_text.proofs.put_answer.Goals as goal

pub put-requires : goal.put-requires
put-requires c = omega arith

pub returns : goal.returns
unfolding answer_line
returns c = record {
  printed =
      printed_then (printed_then (printed_then (printed_then (printed_then (printed_then (printed_then
      c.put-a.ensures c.put-b.ensures) c.put_small-c.ensures.printed)
      c.put-d.ensures)
      c.put_decimal-e.ensures.printed) c.put-f.ensures) c.put_hex-g.ensures.printed)
      c.put.ensures;
  upper_bound =
      omega (
        arith,
        c.put-a.ensures.past,
        c.put-b.ensures.past,
        c.put_small-c.ensures.upper_bound,
        c.put-d.ensures.past,
        c.put_decimal-e.ensures.upper_bound,
        c.put-f.ensures.past,
        c.put_hex-g.ensures.value,
        c.put.ensures.past,
      );
}

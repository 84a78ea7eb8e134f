-- `stream_text::put_refusal` meets its contract: four runs, one after the other.
-- Assumes nothing.
use native.Mathlib.Omega.{arith}
use Rattle.spec_program.specs.Line.{refusal_line}
use Rattle.stream_text.proofs.Numbers.{number_small}
use Rattle.stream_text.proofs.Printing.{printed_then}
use Rattle.stream_text.proofs.put_refusal.Goals as goal

pub put_small-c-requires : goal.put_small-c-requires
put_small-c-requires c = omega (arith, c.from.ensures, number_small c.args.why)

pub returns : goal.returns
unfolding refusal_line
returns c = record {
  printed =
      rw (← c.from.ensures)
      (printed_then (printed_then (printed_then c.put-a.ensures c.put-b.ensures) c.put_small-c.ensures.printed) c.put.ensures);
  upper_bound =
      omega (arith, c.put-a.ensures.past, c.put-b.ensures.past, c.put_small-c.ensures.upper_bound, c.put.ensures.past);
}

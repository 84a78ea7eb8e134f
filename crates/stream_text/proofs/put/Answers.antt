-- `stream_text::put` meets its contract.
-- Assumes nothing.
use Rattle.stream_text.proofs.Printing.{printed_one}
use Rattle.stream_text.proofs.put.Goals as goal

pub returns : goal.returns
returns c = printed_one c.args.out.now c.args.at c.args.b

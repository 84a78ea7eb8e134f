-- `stream_serve::phase_after` meets its contract.
-- Assumes nothing.
use Rattle.spec_program.specs.Output.{most_words}
use borrow.Author.Tests.{lt-ltb, le-ltb}
use Rattle.stream_serve.proofs.phase_after.Goals as goal

pub returns-then-count-lt-MOST : goal.returns-then-count-lt-MOST
returns-then-count-lt-MOST c = rw (lt-ltb c.args.count most_words c.if-count-lt-MOST.true)

pub returns : goal.returns
returns c = rw (le-ltb c.args.count most_words c.if-count-lt-MOST.false)

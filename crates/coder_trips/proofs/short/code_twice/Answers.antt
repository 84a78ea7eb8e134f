-- `coder_trips::short::code_twice` meets its contract: what the two calls ensure together.
-- Assumes nothing.
use Rattle.spec_operations.proofs.Short.{same_word}
use Rattle.coder_trips.proofs.short.code_twice.Goals as goal

pub returns-clause-same_word : goal.returns-clause-same_word
returns-clause-same_word c = same_word c.code-a.ensures c.code-b.ensures

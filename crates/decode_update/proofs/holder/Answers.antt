-- `decode_update::holder` meets its contract: each return rewrites with the tests that led there.
-- Assumes nothing.
use borrow.Author.Tests.{lt-ltb, le-ltb}
use Rattle.decode_update.specs.Column.{climbed}
use Rattle.decode_update.proofs.holder.Goals as goal

pub returns-then-count-x : goal.returns-then-count-x
unfolding climbed
returns-then-count-x c = search (lt-ltb, le-ltb)

pub returns-then-x-count : goal.returns-then-x-count
unfolding climbed
returns-then-x-count c = search (lt-ltb, le-ltb)

pub returns : goal.returns
unfolding climbed
returns c = search (lt-ltb, le-ltb)

-- `book::generator::limits_ok` meets its contract: each return rewrites with the tests that led there.
-- Assumes nothing.
use borrow.Author.Tests.{le-leb, lt-leb}
use Rattle.book.specs.Params.{limits_test}
use Rattle.book.proofs.generator.limits_ok.Goals as goal

pub returns-then-rounds-lt1 : goal.returns-then-rounds-lt1
unfolding limits_test
returns-then-rounds-lt1 c = rw (lt-leb _ _ c.if-rounds-lt1.true)

pub returns-then-rounds-gt-ROUNDS : goal.returns-then-rounds-gt-ROUNDS
unfolding limits_test
returns-then-rounds-gt-ROUNDS c = rw (le-leb _ _ c.if-rounds-lt1.false, lt-leb _ _ c.if-rounds-gt-ROUNDS.true)

pub returns-then-places-lt1 : goal.returns-then-places-lt1
unfolding limits_test
returns-then-places-lt1 c = rw (le-leb _ _ c.if-rounds-lt1.false, le-leb _ _ c.if-rounds-gt-ROUNDS.false, lt-leb _ _ c.if-places-lt1.true)

pub returns : goal.returns
unfolding limits_test
returns c = rw (le-leb _ _ c.if-rounds-lt1.false, le-leb _ _ c.if-rounds-gt-ROUNDS.false, le-leb _ _ c.if-places-lt1.false)

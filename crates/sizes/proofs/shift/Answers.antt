-- `sizes::shift` meets its contract.
-- Assumes nothing.
use borrow.Author.Tests.{lt-ltb, le-ltb}
use Rattle.sizes.specs.Blocks.{shift}
use Rattle.sizes.proofs.shift.Goals as goal

pub returns-then-n-lt64 : goal.returns-then-n-lt64
unfolding shift
returns-then-n-lt64 c = rw (lt-ltb _ 64 c.if-n-lt64.true)

pub returns-then-n-lt128 : goal.returns-then-n-lt128
unfolding shift
returns-then-n-lt128 c = rw (le-ltb _ 64 c.if-n-lt64.false, lt-ltb _ 128 c.if-n-lt128.true)

pub returns : goal.returns
unfolding shift
returns c = rw (le-ltb _ 64 c.if-n-lt64.false, le-ltb _ 128 c.if-n-lt128.false)

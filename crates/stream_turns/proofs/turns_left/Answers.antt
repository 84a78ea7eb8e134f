-- `stream_turns::turns_left` meets its contract: each return rewrites with the tests that led there.
-- Assumes nothing.
use mathlib.Core.Path.{sym}
use Rattle.stream_turns.specs.Turns.{turns_left}
use Rattle.stream_turns.proofs.turns_left.Goals as goal

pub returns-then-not-sent-clause-value : goal.returns-then-not-sent-clause-value
unfolding turns_left
returns-then-not-sent-clause-value c = rw c.if-not-sent.true

pub returns-then-not-full-clause-value : goal.returns-then-not-full-clause-value
unfolding turns_left
returns-then-not-full-clause-value c = rw (c.if-not-sent.false, c.if-not-full.true)

pub returns-then-is_over-clause-value : goal.returns-then-is_over-clause-value
unfolding turns_left
returns-then-is_over-clause-value c = rw (c.if-not-sent.false, c.if-not-full.false, sym c.if-is_over.ensures)

pub returns-clause-value : goal.returns-clause-value
unfolding turns_left
returns-clause-value c = rw (c.if-not-sent.false, c.if-not-full.false, sym c.if-is_over.ensures)

-- `book_alike::compare::like_earlier` meets its contract. The invariant: no dual word below m is like dual word l.
-- Assumes nothing.
use mathlib.Core.Path.{sym, ap, ◌∙◌}
use mathlib.Core.Bool.{not}
use Rattle.spec_range.proofs.Loop.{passing_none, passing_more, passing_fails, passing_end}
use Rattle.book_alike.specs.Compared.{differ}
use borrow.Author.Rules.{rules}
use Rattle.book_alike.proofs.compare.like_earlier.Goals as goal

pub loop-m-init : goal.loop-m-init
loop-m-init c = passing_none _ _

pub returns-then-pair_alike : goal.returns-then-pair_alike
unfolding differ
returns-then-pair_alike c = passing_fails c.loop-m.invariant (search rules) (ap not (sym c.pair_alike.ensures ∙ c.if-pair_alike.true))

pub loop-m-preserved : goal.loop-m-preserved
loop-m-preserved c = passing_more c.loop-m.invariant (search rules) (ap not (sym c.pair_alike.ensures ∙ c.if-pair_alike.false))

pub returns : goal.returns
unfolding differ
returns c = passing_end c.loop-m.invariant (search rules)

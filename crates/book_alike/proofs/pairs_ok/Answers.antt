-- `book_alike::pairs_ok` meets its contract. The invariant: no dual word below l is like one before it.
-- Assumes nothing.
use mathlib.Core.Path.{sym, ap, ◌∙◌}
use mathlib.Core.Bool.{not}
use native.Mathlib.Omega.{arith}
use Rattle.spec_range.proofs.Loop.{passing_none, passing_more, passing_fails, passing_end}
use Rattle.book_alike.proofs.Differing.{comparable_part, signed_part}
use borrow.Author.Rules.{rules}
use Rattle.book_alike.proofs.pairs_ok.Goals as goal

pub loop-l-init : goal.loop-l-init
loop-l-init c = passing_none _ _

pub seen_before-requires : goal.seen_before-requires
seen_before-requires c =
    let s = c.requires in
    (comparable_part (omega arith) s.0, signed_part (omega arith) s.1, omega (arith, s.2, c.loop-l.auto.t))

pub returns-then-seen_before : goal.returns-then-seen_before
returns-then-seen_before c =
    passing_fails c.loop-l.invariant (search rules) (sym c.seen_before.ensures.0 ∙ ap not c.if-seen_before.true)

pub loop-l-preserved : goal.loop-l-preserved
loop-l-preserved c =
    passing_more c.loop-l.invariant (search rules) (sym c.seen_before.ensures.0 ∙ ap not c.if-seen_before.false)

pub returns : goal.returns
returns c = passing_end c.loop-l.invariant (search rules)

-- `word_alike::alike` meets its contract. The invariant: no turn below k fits.
-- Assumes nothing.
use mathlib.Core.Path.{sym, ap, ◌∙◌}
use mathlib.Core.Bool.{not}
use native.Mathlib.Omega.{arith}
use Rattle.spec_range.proofs.Loop.{passing_none, passing_more, passing_fails, passing_end}
use Rattle.sizes.proofs.Lengths.{blocks_high}
use Rattle.word_alike.proofs.Comparing.{row_fits, alike_compared}
use borrow.Author.Rules.{rules}
use Rattle.word_alike.proofs.alike.Goals as goal

pub lay-requires : goal.lay-requires
lay-requires c =
    let h = c.requires in
    (h.sizes.n_low, h.sizes.n_high, h.room, omega (arith, blocks_high c.args.n, h.sizes.n_high))

pub loop-k-init : goal.loop-k-init
loop-k-init c = passing_none _ _

pub turn_ok-requires : goal.turn_ok-requires
turn_ok-requires c =
    (c.requires.sizes.n_high, search rules, c.lay.ensures.long, row_fits c.requires c.lay.ensures c.loop-k.k (search rules))

pub returns-then-turn_ok : goal.returns-then-turn_ok
returns-then-turn_ok c =
    ap not (passing_fails c.loop-k.invariant (search rules) (ap not (sym c.turn_ok.ensures ∙ c.if-turn_ok.true)))
    ∙ alike_compared c.requires c.lay.ensures

pub loop-k-preserved : goal.loop-k-preserved
loop-k-preserved c = passing_more c.loop-k.invariant (search rules) (ap not (sym c.turn_ok.ensures ∙ c.if-turn_ok.false))

pub returns : goal.returns
returns c = ap not (passing_end c.loop-k.invariant (search rules)) ∙ alike_compared c.requires c.lay.ensures

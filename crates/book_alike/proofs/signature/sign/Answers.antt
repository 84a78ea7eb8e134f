-- `book_alike::signature::sign` meets its contract. The invariant: the signatures of the rows below i are stored.
-- Assumes nothing.
use mathlib.Core.Path.{◌≡◌}
use native.Mathlib.Omega.{arith}
use Rattle.sizes.proofs.Lengths.{blocks_high, blocks_fit}
use Rattle.word_table.proofs.Window.{window_none, window_more}
use Rattle.book_alike.proofs.Laying.{row_within}
use borrow.Author.Rules.{rules}
use Rattle.book_alike.proofs.signature.sign.Goals as goal

pub loop-i-init : goal.loop-i-init
loop-i-init c = window_none _ _ _

pub overflow_mul-blocks : goal.overflow_mul-blocks
overflow_mul-blocks c = search (rules, row_within c.args.n c.blocks-blocks.ensures c.loop-i-test.true c.requires.1)

pub overflow_mul-blocks-in-loop-i : goal.overflow_mul-blocks-in-loop-i
overflow_mul-blocks-in-loop-i c = search (rules, row_within c.args.n c.blocks-blocks.ensures c.loop-i-test.true c.requires.1)

pub signature-requires : goal.signature-requires
signature-requires c =
    let e = c.blocks-blocks.ensures in (
      omega (arith, e, blocks_fit c.requires.0),
      omega (arith, e, blocks_high c.args.n),
      row_within c.args.n e c.loop-i-test.true c.requires.1,
      c.requires.2,
    )

pub loop-i-preserved : goal.loop-i-preserved
loop-i-preserved c =
    let so_far = c.loop-i.invariant in
    window_more _ (omega (arith, so_far.long)) c.signature.ensures so_far

pub returns : goal.returns
returns c =
    let all : c.loop-i.i ≡ c.args.k = omega arith in
    rw (all, c.blocks-blocks.ensures) at c.loop-i.invariant

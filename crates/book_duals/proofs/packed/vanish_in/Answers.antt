-- `book_duals::packed::vanish_in` meets its contract. The invariant: the products of the dual words below l are joined.
-- Assumes nothing.
use mathlib.Core.Path.{refl, ap, ◌∙◌}
use native.Mathlib.Omega.{arith}
use Rattle.sizes.proofs.Lengths.{blocks_fit}
use Rattle.spec_word.specs.Division.{all_zero}
use Rattle.book_duals.specs.Duals.{product_ok}
use Rattle.book_duals.proofs.Joined.{joined_none, joined_more, joined_end}
use Rattle.book_duals.proofs.LaneProduct.{tested_part}
use borrow.Author.Rules.{rules}
use Rattle.book_duals.proofs.packed.vanish_in.Goals as goal
use Rattle.book_duals.proofs.packed.vanish_in.Goals.{else-loop-l-test, then-loop-l-test+else-most-duals}

pub loop-l-init : goal.loop-l-init
loop-l-init c = (search rules, joined_none _ _ _ c.requires.5)

pub product_of-requires : goal.product_of-requires
product_of-requires c =
    let h = c.requires in
    let k = c.min-k.ensures in (
      tested_part (omega (arith, k, c.loop-l-test.true)) h.0,
      h.1,
      omega (arith, k, c.from-most.ensures),
      omega (arith, h.2, c.loop-l.auto.t),
      omega (arith, h.3, c.loop-l.auto.product),
    )

pub loop-l-preserved : goal.loop-l-preserved
loop-l-preserved c =
    let fits = blocks_fit c.requires.0.sizes.n_high in (
      search rules,
      joined_more c.loop-l.invariant.1 (omega (arith, c.blocks-blocks.ensures, fits)) (omega (arith, c.min-k.ensures)) c.product_of.ensures.2
          c.join.ensures,
    )

pub is_zero-requires : goal.is_zero-requires
is_zero-requires c =
    let h = c.requires in
    (h.0.sizes.n_high, omega (arith, h.4, c.loop-l-test.auto.left, blocks_fit h.0.sizes.n_high))

pub returns : goal.returns
unfolding product_ok
returns c =
    let fits = blocks_fit c.requires.0.sizes.n_high in
    c.is_zero.ensures
    ∙ elim c.loop-l-test.branch [
      | else-loop-l-test w ↦ ap (all_zero c.args.n) w.left-is ∙ joined_end c.loop-l.invariant.1 (omega (arith, c.loop-l.invariant.0, w.loop-l-test.false))
      | then-loop-l-test+else-most-duals w ↦
          ap (all_zero c.args.n) w.left-is
          ∙ joined_end (joined_more c.loop-l.invariant.1 (omega (arith, c.blocks-blocks.ensures, fits)) refl w.product_of.ensures.2 w.join.ensures)
          (omega (arith, w.min-k.ensures, w.loop-l-test.true))
    ]

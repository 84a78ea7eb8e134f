-- `word_table::product` meets its contract. The invariant: b blocks of the sum are written.
-- Assumes nothing.
use mathlib.Core.Path.{◌≡◌, refl, ◌∙◌}
use native.Mathlib.Omega.{arith}
use Rattle.sizes.proofs.Lengths.{blocks_high}
use Rattle.word_table.proofs.Window.{window_none, window_join, read_table}
use Rattle.word_table.proofs.product.Goals as goal

pub loop-b-init : goal.loop-b-init
loop-b-init c = window_none _ _ _

pub product_block-sum-requires : goal.product_block-sum-requires
product_block-sum-requires c =
    let e = c.blocks-blocks.ensures in
    (rw e c.requires.0, omega arith, omega (arith, e, blocks_high c.args.n))

pub loop-b-preserved : goal.loop-b-preserved
loop-b-preserved c =
    window_join (omega arith) (omega arith) (λ k l. refl) (λ k l. read_table _ c.product_block-sum.ensures l) c.loop-b.invariant
    c.put_block.ensures

pub returns : goal.returns
returns c =
    let e = c.blocks-blocks.ensures in
    let all : c.loop-b.b ≡ c.blocks-blocks.result = omega arith in
    rw (all ∙ e, e) at c.loop-b.invariant

-- `book_duals::packed::packed` meets its contract. The invariant: b blocks are packed.
-- Assumes nothing.
use mathlib.Core.Path.{◌≡◌, refl}
use native.Mathlib.Omega.{arith}
use Rattle.word_table.proofs.Window.{window_none, window_join, read_table}
use Rattle.sizes.specs.Blocks.{blocks}
use Rattle.book_duals.proofs.packed.packed.Goals as goal

pub loop-b-init : goal.loop-b-init
loop-b-init c = window_none _ _ _

pub packed_block-block-requires : goal.packed_block-block-requires
packed_block-block-requires c =
    let s = c.requires in
    let e = c.blocks-blocks.ensures in
    (s.0.sizes.p_low, s.1, s.0.duals_high, s.0.room, omega (arith, e, s.0.spanned, c.loop-b-test.true))

pub put_block-requires : goal.put_block-requires
put_block-requires c = omega (arith, c.blocks-blocks.ensures, c.requires.2, c.loop-b.invariant.long, c.loop-b-test.true)

pub loop-b-preserved : goal.loop-b-preserved
loop-b-preserved c =
    window_join (omega arith) (omega arith) (λ k l. refl) (λ k l. read_table _ c.packed_block-block.ensures l) c.loop-b.invariant
    c.put_block.ensures

pub returns : goal.returns
returns c =
    let e : c.loop-b.b ≡ blocks c.args.n = omega (arith, c.blocks-blocks.ensures) in
    rw e at c.loop-b.invariant

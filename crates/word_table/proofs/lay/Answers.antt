-- `word_table::lay` meets its contract.
-- Assumes nothing.
use mathlib.Core.Path.{◌≡◌, refl, ap, ◌∙◌}
use Prim.Native.Nat.{◌+◌, ◌-◌, ◌*◌}
use native.Mathlib.Omega.{arith}
use Rattle.sizes.proofs.Lengths.{blocks_low, blocks_fit}
use Rattle.spec_range.specs.Table.{padded}
use Rattle.spec_range.proofs.Loop.{padded_same}
use Rattle.word_array.specs.Stored.{place}
use Rattle.word_table.proofs.Rows.{copied, laid}
use borrow.Author.Rules.{rules}
use Rattle.word_table.proofs.lay.Goals as goal

pub overflow_sub-count : goal.overflow_sub-count
overflow_sub-count c = let low = blocks_low c.args.n in search rules

pub last_block-last-requires : goal.last_block-last-requires
last_block-last-requires c = let low = blocks_low c.args.n in search rules

pub copy_blocks-requires : goal.copy_blocks-requires
copy_blocks-requires c = let low = blocks_low c.args.n in search rules

pub put_block-requires : goal.put_block-requires
put_block-requires c = let low = blocks_low c.args.n in search rules

pub copy_blocks-requires-2 : goal.copy_blocks-requires-2
copy_blocks-requires-2 c = let low = blocks_low c.args.n in search rules

pub put_block-requires-2 : goal.put_block-requires-2
put_block-requires-2 c = let low = blocks_low c.args.n in search rules

pub returns : goal.returns
returns c =
    let e = c.blocks-count.ensures in
    let low = blocks_low c.args.n in
    let short : c.last_block-last.result ≡ padded 64 63 (λ k. place c.args.s.now (c.args.from + (64 * (c.blocks-count.result - 1) + k))) =
    c.last_block-last.ensures ∙ padded_same 64 63 (λ k l. ap (place c.args.s.now) (omega arith)) in
    laid (blocks_fit c.requires.1) (copied (omega (arith, low, e)) (search rules) refl short c.copy_blocks.ensures c.put_block.ensures)
    (copied (omega (arith, low, e)) (search rules) refl short c.copy_blocks-2.ensures c.put_block-2.ensures)

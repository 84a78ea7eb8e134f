-- `word_table::put_first_rows` meets its contract.
-- Assumes nothing.
use native.Mathlib.Omega.{arith}
use Rattle.sizes.proofs.Lengths.{blocks_fit}
use Rattle.word_table.proofs.Rows.{begun}
use borrow.Author.Rules.{rules}
use Rattle.word_table.proofs.put_first_rows.Goals as goal

pub lay-requires : goal.lay-requires
lay-requires c = let fits = blocks_fit c.requires.1 in search rules

pub returns : goal.returns
returns c =
    let e = c.blocks-blocks.ensures in
    begun (omega (arith, e)) (omega (arith, e)) c.clear.ensures c.lay.ensures

-- `word_table::add_block` meets its contract: the block is read before it is written over.
-- Assumes nothing.
use mathlib.Core.Path.{ap, ap₂, ◌∙◌}
use Prim.Native.Nat.{◌+◌}
use native.Mathlib.Omega.{arith}
use lib.Bits.{bit_xor}
use Rattle.spec_range.proofs.Table.{table_same}
use Rattle.word_array.specs.Stored.{place}
use Rattle.word_array.proofs.Eights.{part_at}
use Rattle.word_table.proofs.Window.{read_table}
use Rattle.word_table.proofs.add_block.Goals as goal

pub returns : goal.returns
returns c =
    rw c.requires.1 at c.add_eights.ensures
    ∙ table_same 64 (λ k l. ap₂ bit_xor
    (read_table _ c.block-old.ensures l ∙ ap (place c.args.sum.now) (omega arith))
    (part_at c.args.t.now c.args.from (c.args.from + 64) k (omega arith)))

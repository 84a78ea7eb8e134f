-- `word_table::copy_blocks` meets its contract. The invariant: b blocks are copied.
-- Assumes nothing.
use mathlib.Core.Path.{◌≡◌, refl, ap, ◌∙◌}
use native.Mathlib.Omega.{arith}
use Rattle.word_array.specs.Stored.{place}
use Rattle.word_table.proofs.Window.{window_none, window_join, read_table}
use Rattle.word_table.proofs.copy_blocks.Goals as goal

pub loop-b-init : goal.loop-b-init
loop-b-init c = window_none _ _ _

pub loop-b-preserved : goal.loop-b-preserved
loop-b-preserved c =
    window_join refl (omega arith) (λ k l. refl) (λ k l. read_table _ c.block.ensures l ∙ ap (place c.args.s.now) (omega arith))
    c.loop-b.invariant
    c.put_block.ensures

pub returns : goal.returns
returns c = let e : c.loop-b.b ≡ c.args.count = omega arith in rw e at c.loop-b.invariant

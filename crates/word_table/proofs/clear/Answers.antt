-- `word_table::clear` meets its contract. The invariant: b blocks are cleared.
-- Assumes nothing.
use mathlib.Core.Path.{◌≡◌, refl}
use native.Mathlib.Omega.{arith}
use Rattle.spec_range.proofs.Loop.{zero_at}
use Rattle.word_table.proofs.Window.{window_none, window_join}
use Rattle.word_table.proofs.clear.Goals as goal

pub loop-b-init : goal.loop-b-init
loop-b-init c = window_none _ _ _

pub loop-b-preserved : goal.loop-b-preserved
loop-b-preserved c =
    window_join (omega arith) (omega arith) (λ k l. refl) (λ k l. zero_at 64 k) c.loop-b.invariant c.put_block.ensures

pub returns : goal.returns
returns c = let e : c.loop-b.b ≡ c.args.count = omega arith in rw e at c.loop-b.invariant

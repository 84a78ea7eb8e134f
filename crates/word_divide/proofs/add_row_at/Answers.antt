-- `word_divide::add_row_at` meets its contract. The invariant: b blocks are added.
-- Assumes nothing.
use mathlib.Core.Path.{◌≡◌, refl}
use native.Mathlib.Omega.{arith}
use Rattle.word_divide.proofs.Dividing.{added_none, added_join}
use Rattle.word_divide.proofs.add_row_at.Goals as goal

pub loop-b-init : goal.loop-b-init
loop-b-init c = added_none _ _ _ _

pub loop-b-preserved : goal.loop-b-preserved
loop-b-preserved c = added_join refl refl (omega arith) c.loop-b.invariant c.add_block_at.ensures

pub returns : goal.returns
returns c = let e : c.loop-b.b ≡ c.args.blocks = omega arith in rw e at c.loop-b.invariant

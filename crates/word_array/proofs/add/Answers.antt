-- `word_array::add` meets its contract. The invariant: the places below j hold the sum.
-- Assumes nothing.
use mathlib.Core.Path.{refl, ◌∙◌}
use native.Mathlib.Omega.{arith}
use Rattle.spec_range.proofs.Loop.{held_more}
use Rattle.word_array.proofs.Filled.{held_end, held_front}
use Rattle.word_array.proofs.Eights.{front_sum}
use Rattle.word_array.proofs.Plus.{padded-plus}
use borrow.Author.Rules.{rules}
use Rattle.word_array.proofs.add.Goals as goal

pub loop-j-init : goal.loop-j-init
loop-j-init c = let whole = c.packed_places-whole.ensures in (
  omega (arith, whole),
  held_front (omega (arith, whole, c.requires.0))
      (front_sum c.args.a.now c.args.b.now _ (omega (arith, c.w-1.given.1)) c.add_eights.ensures),
)

pub loop-j-preserved : goal.loop-j-preserved
loop-j-preserved c = let pre = c.requires in
    (search rules, held_more _ (omega (arith, pre.0)) refl c.loop-j.invariant.1)

pub returns : goal.returns
returns c p = held_end (omega arith) c.loop-j.invariant.1 ∙ padded-plus 255 p _ _ _

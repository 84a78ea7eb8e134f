-- `word_array::add_eights` meets its contract. The invariant: the places of the first i eights hold the sum.
-- Assumes nothing.
use Prim.Native.Nat.{◌*◌}
use mathlib.Core.Path.{◌≡◌, refl}
use native.Mathlib.Omega.{arith}
use lib.ListN.{length}
use Rattle.spec_range.proofs.Loop.{over_none, over_table}
use Rattle.word_array.proofs.Filled.{over_part}
use Rattle.word_array.proofs.Eights.{part-sum}
use borrow.Author.Rules.{rules}
use Rattle.word_array.proofs.add_eights.Goals as goal

pub loop-i-init : goal.loop-i-init
loop-i-init c = (search rules, over_none _ _)

pub pack-x-requires : goal.pack-x-requires
pack-x-requires c = omega (arith, c.pack-arg-1.given.1)

pub pack-y-requires : goal.pack-y-requires
pack-y-requires c = omega (arith, c.pack-arg-in-loop-i-1.given.1)

pub loop-i-preserved : goal.loop-i-preserved
loop-i-preserved c = (
  search rules,
  over_part refl (omega arith) (omega (arith, c.loop-i.invariant.1.long)) c.unpack.ensures
      (part-sum c.args.a.now c.args.b.now _ c.pack-x.ensures c.pack-y.ensures)
      c.loop-i.invariant.1,
)

pub shape_of-out : goal.shape_of-out
shape_of-out c = c.loop-i.invariant.1.long

pub returns : goal.returns
returns c =
    let whole : 8 * c.loop-i.i ≡ length c.args.out.now = omega arith in
    over_table _ _ _ _ refl (rw whole at c.loop-i.invariant.1)

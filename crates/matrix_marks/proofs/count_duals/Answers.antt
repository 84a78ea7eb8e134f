-- `matrix_marks::count_duals` meets its contract. The invariant: the dual words below l are counted, and the rooms are as long as before.
-- Assumes nothing.
use mathlib.Core.Path.{◌≡◌, refl}
use Prim.Native.Nat.{ℕ}
use native.Mathlib.Omega.{arith}
use lib.ListN.{length-replicate}
use Rattle.sizes.proofs.Lengths.{blocks_high}
use Rattle.matrix_terms.proofs.Summing.{row_summands}
use Rattle.matrix_marks.proofs.Tallying.{tallied_none, dual_turned, dual_tallied}
use borrow.Author.Rules.{rules}
use Rattle.matrix_marks.proofs.count_duals.Goals as goal

pub loop-l-init : goal.loop-l-init
loop-l-init c = (length-replicate {A = ℕ} 256 0, refl, refl, tallied_none c.requires.rooms)

pub product-requires : goal.product-requires
product-requires c =
    (c.requires.terms_of.numbers, c.loop-l-test.true, c.requires.multiples, omega (arith, c.loop-l.invariant.0, blocks_high c.args.n))

pub overflow_add-blocks : goal.overflow_add-blocks
overflow_add-blocks c =
    omega (arith, (row_summands c.requires.terms_of.numbers c.loop-l-test.true c.blocks-blocks.ensures c.requires.multiples).within)

pub count_dual-requires : goal.count_dual-requires
count_dual-requires c =
    dual_turned c.requires c.loop-l-test.true c.product.ensures c.loop-l.invariant.3 c.blocks-blocks.ensures
    (omega (arith, c.product.auto, c.loop-l.invariant.0, blocks_high c.args.n)) c.loop-l.invariant.1

pub loop-l-preserved : goal.loop-l-preserved
loop-l-preserved c = (
  search rules,
  search rules,
  search rules,
  dual_tallied c.requires c.loop-l-test.true c.product.ensures c.loop-l.invariant.3 c.blocks-blocks.ensures c.count_dual.ensures,
)

pub returns : goal.returns
returns c = let e : c.loop-l.l ≡ c.args.duals = omega arith in rw e at c.loop-l.invariant.3

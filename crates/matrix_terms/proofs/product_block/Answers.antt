-- `matrix_terms::product_block` meets its contract. The invariant: the table's places that the first i terms tell are summed.
-- Assumes nothing.
use Prim.Native.Nat.{◌^◌, ◌≤◌}
use native.Mathlib.Omega.{arith}
use lib.Pow.{pow_mono}
use Rattle.matrix_terms.proofs.Summing.{summing_none, summing_more, summing_end, start_is, log_in, turn_in, start_in}
use Rattle.matrix_terms.proofs.product_block.Goals as goal

pub loop-i-preserved : goal.loop-i-preserved
loop-i-preserved c =
    summing_more c.loop-i.invariant c.loop-i-test.true (omega (arith, start_is c.requires.0 _ c.requires.1 c.loop-i-test.true)) c.add_block.ensures

pub overflow_mul-stride-2 : goal.overflow_mul-stride-2
overflow_mul-stride-2 c = let most : 2 ^ c.args.shift ≤ 512 = pow_mono c.requires.2 in omega arith

pub loop-i-init : goal.loop-i-init
loop-i-init c = summing_none _ _ _ _ _ _

pub bounds-terms-term : goal.bounds-terms-term
bounds-terms-term c = log_in c.requires.0 _ c.requires.1 c.loop-i-test.true

pub overflow_mul-stride-in-loop-i : goal.overflow_mul-stride-in-loop-i
overflow_mul-stride-in-loop-i c = omega (arith, start_in c.requires.0 _ c.requires.1 c.loop-i-test.true)

pub overflow_sub-n : goal.overflow_sub-n
overflow_sub-n c = turn_in c.requires.0 _ c.requires.1 c.loop-i-test.true

pub overflow_add-stride : goal.overflow_add-stride
overflow_add-stride c = omega (arith, start_in c.requires.0 _ c.requires.1 c.loop-i-test.true)

pub overflow_add-stride-in-loop-i : goal.overflow_add-stride-in-loop-i
overflow_add-stride-in-loop-i c = omega (arith, start_in c.requires.0 _ c.requires.1 c.loop-i-test.true, c.requires.3)

pub add_block-requires : goal.add_block-requires
add_block-requires c = (omega (arith, start_in c.requires.0 _ c.requires.1 c.loop-i-test.true, c.requires.3), c.loop-i.invariant.long)

pub returns : goal.returns
returns c = summing_end c.loop-i.invariant c.loop-i-test.false

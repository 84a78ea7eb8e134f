-- `book_duals::packed::packed_block` meets its contract. The invariant: the first i dual words are packed.
-- Assumes nothing.
use Prim.Native.Nat.{◌+◌}
use native.Mathlib.Omega.{arith}
use Rattle.book_duals.proofs.Places.{dual_fits}
use Rattle.book_duals.proofs.Packing.{packing_none, packing_fits, packing_more, packing_end}
use borrow.Author.Rules.{rules}
use Rattle.book_duals.proofs.packed.packed_block.Goals as goal

pub loop-i-init : goal.loop-i-init
loop-i-init c = packing_none _ _ _ _ _

pub overflow_add-dual_at : goal.overflow_add-dual_at
overflow_add-dual_at c =
    search (rules, dual_fits c.args.book.now {l = c.args.l + c.loop-i.i} c.requires.3 (omega arith) c.dual_at.ensures)

pub pack-requires : goal.pack-requires
pack-requires c =
    let s = c.requires in (
      omega (arith, packing_fits c.loop-i.invariant s.1 c.loop-i-test.true, s.0),
      omega (arith, dual_fits c.args.book.now {l = c.args.l + c.loop-i.i} s.3 (omega arith) c.dual_at.ensures, s.4),
      c.loop-i.invariant.long,
    )

pub overflow_add-shift : goal.overflow_add-shift
overflow_add-shift c = omega (arith, packing_fits c.loop-i.invariant c.requires.1 c.loop-i-test.true)

pub loop-i-preserved : goal.loop-i-preserved
loop-i-preserved c = packing_more c.loop-i.invariant c.loop-i-test.true (omega (arith, c.dual_at.ensures)) c.pack.ensures

pub returns : goal.returns
returns c = packing_end c.loop-i.invariant (omega arith)

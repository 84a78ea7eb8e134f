-- `book_duals::packed::products_vanish` meets its contract: the rooms are large enough.
-- Assumes nothing.
use Prim.Native.Nat.{◌^◌, ◌≤◌}
use native.Mathlib.Omega.{arith}
use lib.Pow.{pow_mono}
use Rattle.sizes.proofs.Lengths.{blocks_high, blocks_one}
use borrow.Author.Rules.{rules}
use Rattle.book_duals.proofs.packed.products_vanish.Goals as goal

pub vanish_with-requires : goal.vanish_with-requires
vanish_with-requires c =
    let few : 2 ^ c.args.p ≤ 2 ^ 3 = pow_mono c.requires.1 in
    rw (blocks_one c.if-n-lt-BLOCK.true) (c.requires.0, c.requires.1, omega (arith, few), search rules, search rules, search rules)

pub vanish_with-requires-else-n-lt-BLOCK : goal.vanish_with-requires-else-n-lt-BLOCK
vanish_with-requires-else-n-lt-BLOCK c =
    (c.requires.0, c.requires.1, omega (arith, c.requires.0.sizes.together), omega (arith, blocks_high c.args.n), search rules, search rules)

-- `matrix_marks::fill` meets its contract: rooms go by the length of a word.
-- Assumes nothing.
use Prim.Native.Nat.{◌^◌, ◌≤◌}
use native.Mathlib.Nat.{le_of_eq}
use native.Mathlib.Omega.{arith}
use lib.Pow.{pow_mono}
use Rattle.sizes.proofs.Lengths.{blocks_one, blocks_high}
use Rattle.matrix_marks.proofs.Tallying.{table_fits, rooms_fit}
use Rattle.matrix_marks.proofs.fill.Goals as goal

pub fill_with-requires : goal.fill_with-requires
fill_with-requires c =
    let few : 2 ^ c.args.p ≤ 2 ^ 3 = pow_mono c.requires.1 in
    let short = le_of_eq (blocks_one c.if-n-lt-BLOCK.true) in
    (c.requires.0, omega (arith, table_fits _ 8 few c.args.n 1 short), rooms_fit _ 8 few c.args.n 1 short, omega arith)

pub fill_with-requires-else-n-lt-BLOCK : goal.fill_with-requires-else-n-lt-BLOCK
fill_with-requires-else-n-lt-BLOCK c =
    let few : 2 ^ c.args.p ≤ 2 ^ 2 = pow_mono (c.requires.2 (omega arith)) in
    let short = blocks_high c.args.n in
    (c.requires.0, table_fits _ 4 few c.args.n 4 short, rooms_fit _ 4 few c.args.n 4 short, omega arith)

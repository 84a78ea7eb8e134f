-- `matrix_scatter::raise_four` meets its contract.
-- Assumes nothing.
use Prim.Native.Nat.{◌+◌}
use native.Mathlib.Omega.{arith}
use Rattle.matrix_scatter.proofs.Cells.{up_one, up_more, up_in, up_most, four_added}
use Rattle.matrix_scatter.proofs.raise_four.Goals as goal

pub raise-requires : goal.raise-requires
raise-requires c = (c.requires.in₀, omega (arith, c.requires.room (c.args.base + c.args.a0)))

pub raise-requires-2 : goal.raise-requires-2
raise-requires-2 c =
    let u = up_one _ c.raise.ensures in
    (up_in u _ c.requires.in₁, up_most u 65534 c.requires.room (omega arith) _)

pub raise-requires-3 : goal.raise-requires-3
raise-requires-3 c =
    let u = up_more (up_one _ c.raise.ensures) _ c.raise-2.ensures in
    (up_in u _ c.requires.in₂, up_most u 65534 c.requires.room (omega arith) _)

pub raise-requires-4 : goal.raise-requires-4
raise-requires-4 c =
    let u = up_more (up_more (up_one _ c.raise.ensures) _ c.raise-2.ensures) _ c.raise-3.ensures in
    (up_in u _ c.requires.in₃, up_most u 65534 c.requires.room (omega arith) _)

pub returns : goal.returns
returns c =
    let u = up_more (up_more (up_one _ c.raise.ensures) _ c.raise-2.ensures) _ c.raise-3.ensures in
    four_added _ _ _ _ _ (up_more u _ c.raise-4.ensures).added

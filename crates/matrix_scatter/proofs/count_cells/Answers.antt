-- `matrix_scatter::count_cells` meets its contract. The invariant: the offsets of the first i eights of places are counted.
-- Assumes nothing.
use mathlib.Core.Path.{◌≡◌}
use Prim.Native.Nat.{◌+◌, ◌*◌}
use native.Mathlib.Omega.{arith}
use Rattle.matrix_terms.proofs.Raised.{adding_none, adding_end}
use Rattle.matrix_scatter.proofs.Cells.{eight_within, eight_more}
use Rattle.matrix_scatter.proofs.count_cells.Goals as goal

pub loop-i-init : goal.loop-i-init
loop-i-init c = adding_none _ _ _

pub count_eight-requires : goal.count_eight-requires
count_eight-requires c = eight_within c.requires.2 c.loop-i.invariant (omega (arith, c.requires.1)) (omega (arith, c.requires.0))

pub loop-i-preserved : goal.loop-i-preserved
loop-i-preserved c =
    let next : 8 * c.loop-i.i + 8 ≡ 8 * (c.loop-i.i + 1) = omega arith in
    rw next at (eight_more c.requires.2 c.loop-i.invariant (omega (arith, c.requires.1)) _ c.count_eight.ensures)

pub returns : goal.returns
returns c = adding_end c.loop-i.invariant (omega (arith, c.requires.1))

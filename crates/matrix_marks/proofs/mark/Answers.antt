-- `matrix_marks::mark` meets its contract. The invariant: the first b blocks are marked.
-- Assumes nothing.
use mathlib.Core.Path.{◌≡◌, refl, ap, ◌∙◌}
use Prim.Native.Nat.{ℕ}
use native.Mathlib.Omega.{arith}
use lib.Dec.{eqb}
use Rattle.spec_range.specs.Fold.{indicator}
use Rattle.word_table.proofs.Window.{window_none, window_join, read_table}
use Rattle.matrix_marks.proofs.mark.Goals as goal

pub loop-b-init : goal.loop-b-init
loop-b-init c = window_none _ _ _

pub loop-b-preserved : goal.loop-b-preserved
loop-b-preserved c =
    window_join refl (omega arith) (λ k l. refl)
    (λ k l. read_table _ c.marked-m.ensures l ∙ ap (λ (x : ℕ). indicator (eqb x c.args.s)) (read_table _ c.block.ensures l))
    c.loop-b.invariant c.put_block.ensures

pub returns : goal.returns
returns c = let e : c.loop-b.b ≡ c.args.blocks = omega arith in rw e at c.loop-b.invariant

-- `matrix_marks::raise` meets its contract. The invariant: the columns below j are added.
-- Assumes nothing.
use Prim.Native.Nat.{ℕ, ◌+◌}
use mathlib.Core.Path.{◌≡◌, ap}
use native.Mathlib.Nat.{le_refl, le_trans, le_of_eq}
use native.Mathlib.Omega.{arith}
use mir.Syntax.{w8}
use mir.Val.{Fits}
use Rattle.word_array.specs.Stored.{place}
use Rattle.word_table.proofs.Window.{window_none, window_more}
use Rattle.matrix_marks.proofs.Marking.{sum_fits}
use borrow.Author.Rules.{rules}
use Rattle.matrix_marks.proofs.raise.Goals as goal

pub loop-j-init : goal.loop-j-init
loop-j-init c = window_none _ _ _

pub overflow_add-counts-in-loop-j : goal.overflow_add-counts-in-loop-j
overflow_add-counts-in-loop-j c =
    let f : Fits w8 (place c.args.row c.loop-j.j) = search rules in
    search (rules, sum_fits _ _ f (le_trans (le_of_eq (c.loop-j.invariant.high _ (le_refl _))) (c.requires.1 _ (omega arith))))

pub loop-j-preserved : goal.loop-j-preserved
loop-j-preserved c =
    let e = ap (λ (x : ℕ). x + place c.args.row c.loop-j.j) (c.loop-j.invariant.high _ (le_refl _)) in
    window_more _ (omega arith) e c.loop-j.invariant

pub returns : goal.returns
returns c = let e : c.loop-j.j ≡ 64 = omega arith in rw e at c.loop-j.invariant

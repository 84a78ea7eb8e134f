-- `matrix::fill` meets its contract: both ways count what the definition does.
-- Assumes nothing.
use Prim.Native.Nat.{◌≤◌}
use mathlib.Core.Path.{sym, ◌∙◌}
use native.Mathlib.Omega.{arith}
use borrow.Author.Rules.{rules}
use borrow.Author.Tests.{ltb-true, ltb-false}
use Rattle.matrix_terms.specs.Terms.{dual_of}
use Rattle.matrix.proofs.Whole.{all_duals}
use Rattle.matrix.proofs.fill.Goals as goal

pub fill-requires : goal.fill-requires
fill-requires c =
    let few : c.args.p ≤ 3 = omega (arith, ltb-true c.args.p 4 (sym c.few.ensures ∙ c.if-few.true)) in
    search (rules, few, c.requires.2 few)

pub fill-requires-else-few : goal.fill-requires-else-few
fill-requires-else-few c = (c.requires.0, c.requires.1 (ltb-false c.args.p 4 (sym c.few.ensures ∙ c.if-few.false)))

pub returns-then-few : goal.returns-then-few
returns-then-few c = λ bytes ok all. c.fill.ensures (dual_of bytes) all ∙ all_duals ok _

pub returns-else-few : goal.returns-else-few
returns-else-few c = λ bytes ok all. c.fill-else-few.ensures (dual_of bytes) all ∙ all_duals ok _

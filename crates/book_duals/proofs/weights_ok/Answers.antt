-- `book_duals::weights_ok` meets its contract. The invariant: `ok` tells whether the dual words below l are right.
-- Assumes nothing.
use mathlib.Core.Path.{◌≡◌, sym, ap, ap₂, ◌∙◌}
use mathlib.Core.Bool.{true, ◌&&◌}
use Prim.Native.Nat.{ℕ}
use native.Mathlib.Omega.{arith}
use lib.Dec.{eqb}
use Rattle.spec_range.proofs.Fold.{tests}
use Rattle.spec_range.proofs.Loop.{fold_none, fold_step}
use Rattle.sizes.proofs.Lengths.{blocks_high}
use Rattle.book_duals.specs.Duals.{weight_ok}
use Rattle.spec_book.proofs.Accepting.{width_low}
use Rattle.book_duals.proofs.Places.{dual_fits}
use Rattle.book_duals.proofs.Weights.{dual_first, dual_weight, weights_same}
use borrow.Author.Rules.{rules}
use Rattle.book_duals.proofs.weights_ok.Goals as goal

pub weight_at-wanted-requires : goal.weight_at-wanted-requires
weight_at-wanted-requires c =
    let s = c.requires in
    rw c.blocks-blocks.ensures
    (blocks_high c.args.n, omega (arith, dual_fits c.args.book.now s.room s.duals_low c.dual_at.ensures, s.spanned))

pub loop-l-init : goal.loop-l-init
loop-l-init c = sym (fold_none _ _ _)

pub overflow_add-ok : goal.overflow_add-ok
overflow_add-ok c = search (rules, dual_fits c.args.book.now c.requires.room c.loop-l-test.true c.dual_at-start.ensures)

pub bounds-book-start : goal.bounds-book-start
bounds-book-start c =
    omega (arith, dual_fits c.args.book.now c.requires.room c.loop-l-test.true c.dual_at-start.ensures, width_low c.args.book.now)

pub weight_at-weight-requires : goal.weight_at-weight-requires
weight_at-weight-requires c =
    let s = c.requires in
    rw c.blocks-blocks.ensures
    (blocks_high c.args.n, omega (arith, dual_fits c.args.book.now s.room c.loop-l-test.true c.dual_at-start.ensures, s.spanned))

pub loop-l-preserved : goal.loop-l-preserved
unfolding weight_ok
loop-l-preserved c =
    let e = c.blocks-blocks.ensures in
    let h = c.requires in
    let b = c.loop-l-test.true in
    tests.assoc c.loop-l.ok _ _
    ∙ fold_step ◌&&◌ true _ _ c.loop-l.invariant (ap₂ ◌&&◌
    (ap (λ (x : ℕ). eqb x 1) (dual_first h b c.dual_at-start.ensures))
    (weights_same _ _ ((rw e at c.weight_at-weight.ensures) ∙ dual_weight h b c.dual_at-start.ensures)
    ((rw e at c.weight_at-wanted.ensures) ∙ dual_weight h h.duals_low c.dual_at.ensures)))

pub returns : goal.returns
returns c = let e : c.loop-l.l ≡ c.args.duals = omega arith in rw e at c.loop-l.invariant

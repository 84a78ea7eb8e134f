-- `refusals::symbols_ok` meets its contract. The invariant: `ok` tells whether the symbols passed are below q.
-- Assumes nothing.
use mathlib.Core.Path.{◌≡◌, refl, sym}
use mathlib.Core.Bool.{true, ◌&&◌}
use native.Mathlib.Omega.{arith}
use lib.ListN.{length}
use Rattle.spec_range.proofs.Loop.{fold_none, fold_step}
use Rattle.spec_book.specs.Conditions.{input_ok}
use Rattle.refusals.proofs.symbols_ok.Goals as goal

pub loop-symbol-init : goal.loop-symbol-init
loop-symbol-init c = sym (fold_none _ _ _)

pub loop-symbol-preserved : goal.loop-symbol-preserved
loop-symbol-preserved c = fold_step ◌&&◌ true _ _ c.loop-symbol.invariant refl

pub returns : goal.returns
unfolding input_ok
returns c =
    let e : c.loop-symbol.symbol-index ≡ length c.args.input.now = omega arith in
    rw e at c.loop-symbol.invariant

-- `game::taking::held` meets its contract.
-- Assumes nothing.
use mathlib.Core.Path.{refl, ap, ◌∙◌}
use Prim.Native.Nat.{ℕ}
use native.Mathlib.Omega.{arith}
use Rattle.spec_range.specs.Fold.{fold}
use Rattle.spec_operations.specs.GameTrips.{held_records}
use Rattle.std.specs.Prelude.{Ok}
use Rattle.burst.specs.Said.{made_bytes}
use Rattle.game.proofs.Held.{byte_le, held_more, held_le}
use Rattle.game.proofs.taking.held.Goals as goal

pub loop-m-init : goal.loop-m-init
unfolding fold
loop-m-init c = (omega arith, refl)

pub overflow_cast-held : goal.overflow_cast-held
overflow_cast-held c = tt

pub overflow_add-held : goal.overflow_add-held
overflow_add-held c =
    let l = c.loop-m in
    omega (arith, l.invariant.1, held_le l.m (made_bytes (Ok c.args.made)), byte_le c.is_held.result, c.requires)

pub loop-m-preserved : goal.loop-m-preserved
loop-m-preserved c =
    let l = c.loop-m.invariant in
    (omega (arith, c.loop-m-test.true), held_more c.args.made _ c.loop-m-test.true l.1 c.record_at-x.ensures c.is_held.ensures)

pub returns : goal.returns
returns c =
    let l = c.loop-m.invariant in
    l.1 ∙ ap (λ (k : ℕ). held_records k (made_bytes (Ok c.args.made))) (omega (arith, l.0, c.loop-m-test.false))

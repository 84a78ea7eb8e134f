-- `game::taking::held` meets its contract.
-- Assumes nothing.
use mathlib.Core.Path.{◌≡◌}
use Prim.Native.Nat.{◌-◌, ◌≤◌}
use Rattle.spec_operations.specs.GameTrips.{held_records}
use Rattle.std.specs.Prelude.{Ok}
use Rattle.burst.specs.Said.{made_bytes}
use Rattle.game.proofs.taking.held.Given as goal

abbrev pub invariant-loop-m : goal.invariant-loop-m
invariant-loop-m l = (l.m ≤ l.made.count) × (l.held ≡ held_records l.m (made_bytes (Ok l.made)))

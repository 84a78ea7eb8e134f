-- `field::inv` meets its contract. The loop's invariant: the total, times the squares to come, is the inverse. Assumes nothing.
use mathlib.Core.Path.{◌≡◌}
use Prim.Native.Nat.{◌-◌, ◌^◌, ◌<◌, ◌≤◌}
use Rattle.spec_field.specs.Symbols.{inverse}
use Rattle.spec_field.proofs.Power.{squares}
use Rattle.field.proofs.inv.Given as goal

abbrev pub invariant-loop : goal.invariant-loop
invariant-loop l =
    (1 ≤ l.counter) × (l.counter ≤ l.p) × (l.square < 2 ^ l.p) × (l.total < 2 ^ l.p) × (squares l.p (l.p - l.counter) l.square l.total ≡ inverse l.p l.a)

abbrev pub decreases-loop : goal.decreases-loop
decreases-loop l = l.p - l.counter

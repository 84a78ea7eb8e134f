-- `field::mul` meets its contract. The loop's invariant: what is summed, with the steps to come, makes the product. Assumes nothing.
use mathlib.Core.Path.{◌≡◌}
use Prim.Native.Nat.{◌-◌, ◌^◌, ◌<◌, ◌≤◌}
use lib.Bits.{bit_xor}
use Rattle.spec_field.specs.Symbols.{shift_add, product}
use Rattle.field.proofs.mul.Given as goal

abbrev pub invariant-loop : goal.invariant-loop
invariant-loop l =
    (l.counter ≤ 6) × (l.shifted < 2 ^ l.p) × (bit_xor l.total (shift_add l.p (6 - l.counter) l.shifted l.rest) ≡ product l.p l.a l.b)

abbrev pub decreases-loop : goal.decreases-loop
decreases-loop l = 6 - l.counter

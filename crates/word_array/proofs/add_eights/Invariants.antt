-- `word_array::add_eights` meets its contract. The invariant: the places of the first i eights hold the sum.
-- Assumes nothing.
use Prim.Native.Nat.{◌*◌, ◌≤◌}
use lib.Bits.{bit_xor}
use Rattle.spec_range.proofs.Loop.{Over}
use Rattle.word_array.specs.Stored.{place}
use Rattle.word_array.proofs.add_eights.Given as goal

abbrev pub invariant-loop-i : goal.invariant-loop-i
invariant-loop-i l = (l.i ≤ l.eights) × Over (8 * l.i) (λ j. bit_xor (place l.a j) (place l.b j)) l.initial.out l.out

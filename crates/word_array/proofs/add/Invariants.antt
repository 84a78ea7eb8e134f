-- `word_array::add` meets its contract. The invariant: the places below j hold the sum.
-- Assumes nothing.
use Prim.Native.Nat.{◌≤◌}
use lib.Bits.{bit_xor}
use Rattle.spec_range.proofs.Loop.{Held}
use Rattle.word_array.specs.Stored.{place}
use Rattle.word_array.proofs.add.Given as goal

abbrev pub invariant-loop-j : goal.invariant-loop-j
invariant-loop-j l = (l.j ≤ l.n) × Held 255 l.j (λ j. bit_xor (place l.a j) (place l.b j)) l.w

-- `word_array::load` meets its contract. The invariant: the places below j are the slice's, from `start` on.
-- Assumes nothing.
use Prim.Native.Nat.{◌+◌, ◌≤◌}
use Rattle.spec_range.proofs.Loop.{Held}
use Rattle.word_array.specs.Stored.{place}
use Rattle.word_array.proofs.load.Given as goal

abbrev pub invariant-loop-j : goal.invariant-loop-j
invariant-loop-j l = (l.j ≤ l.n) × Held 255 l.j (λ j. place l.s (l.start + j)) l.w

-- `decode_update::widened` meets its contract. The invariant: the places below j are the slice's, the others the largest number.
-- Assumes nothing.
use Prim.Native.Nat.{ℕ, ◌≤◌, ◌<◌}
use Rattle.spec_range.proofs.Loop.{Over}
use Rattle.word_array.specs.Stored.{place}
use Rattle.decode_update.proofs.widened.Given as goal

abbrev pub invariant-loop-j : goal.invariant-loop-j
invariant-loop-j l = (l.j ≤ l.n) × Over l.j (place l.a) l.initial.w l.w × ((k : ℕ) → k < l.j → place l.a k ≤ 65535)

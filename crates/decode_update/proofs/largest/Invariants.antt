-- `decode_update::largest` meets its contract. The invariant: the numbers below place j are at most `most`.
-- Assumes nothing.
use Prim.Native.Nat.{ℕ, ◌≤◌, ◌<◌}
use Rattle.word_array.specs.Stored.{place}
use Rattle.decode_update.proofs.largest.Given as goal

abbrev pub invariant-loop-j : goal.invariant-loop-j
invariant-loop-j l = (l.j ≤ l.n) × ((k : ℕ) → k < l.j → place l.a k ≤ l.most)

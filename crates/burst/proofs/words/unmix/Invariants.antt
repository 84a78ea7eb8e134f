-- `burst::words::unmix` meets its contract. The invariant: the places below j are those of word m.
-- Assumes nothing.
use Prim.Native.Nat.{◌+◌, ◌*◌, ◌-◌, ◌≤◌}
use Rattle.spec_range.proofs.Loop.{Held}
use Rattle.word_array.specs.Stored.{place}
use Rattle.burst.proofs.words.unmix.Given as goal

abbrev pub invariant-loop-j : goal.invariant-loop-j
invariant-loop-j l = (l.j ≤ l.n) × Held 255 l.j (λ j. place l.received (j * l.words + l.m)) l.w

-- `decode_update::corrections` meets its contract. The invariant: the places below j hold what the counts admit of each column's symbol.
-- Assumes nothing.
use Prim.Native.Nat.{◌≤◌}
use Rattle.spec_range.proofs.Loop.{Held}
use Rattle.word_array.specs.Stored.{place}
use Rattle.decode_update.specs.Rule.{at_most, at_least, admitted}
use Rattle.decode_update.proofs.corrections.Given as goal

abbrev pub invariant-loop-j : goal.invariant-loop-j
invariant-loop-j l =
    (l.j ≤ l.n) × Held 255 l.j (λ j. admitted l.places (at_most l.n l.m (place l.m j)) (at_least l.n l.counts (place l.counts j)) (place l.symbols j)) l.e

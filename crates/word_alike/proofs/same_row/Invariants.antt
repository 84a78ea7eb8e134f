-- `word_alike::same_row` meets its contract. The invariant: `found` is the number of places below j that differ.
-- Assumes nothing.
use mathlib.Core.Bool.{not}
use Prim.Native.Nat.{◌+◌}
use lib.Dec.{eqb}
use Rattle.word_array.specs.Stored.{place}
use Rattle.word_array.proofs.Counted.{Counted}
use Rattle.word_alike.proofs.same_row.Given as goal

abbrev pub invariant-loop-j : goal.invariant-loop-j
invariant-loop-j l = Counted l.n (λ j. not (eqb (place l.d (l.k + j)) (place l.t (l.from + j)))) l.j l.found

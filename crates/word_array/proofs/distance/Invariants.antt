-- `word_array::distance` meets its contract. The invariant: `count` is the number of places below j where the words differ.
-- Assumes nothing.
use lib.Dec.{eqb}
use mathlib.Core.Bool.{not}
use Rattle.word_array.specs.Stored.{place}
use Rattle.word_array.proofs.Counted.{Counted}
use Rattle.word_array.proofs.distance.Given as goal

abbrev pub invariant-loop-j : goal.invariant-loop-j
invariant-loop-j l = Counted l.n (λ i. not (eqb (place l.a i) (place l.b i))) l.j l.count

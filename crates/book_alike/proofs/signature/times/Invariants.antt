-- `book_alike::signature::times` meets its contract. The invariant: `found` is the number of those below place m that are x.
-- Assumes nothing.
use lib.Dec.{eqb}
use Rattle.word_array.specs.Stored.{place}
use Rattle.word_array.proofs.Counted.{Counted}
use Rattle.book_alike.proofs.signature.times.Given as goal

abbrev pub invariant-loop-m : goal.invariant-loop-m
invariant-loop-m l = Counted 32 (λ m. eqb (place l.s m) l.x) l.m l.found

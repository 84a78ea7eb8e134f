-- `word_array::is_zero` meets its contract. The invariant: `found` is the number of nonzero places below j.
-- Assumes nothing.
use Rattle.spec_word.specs.Word.{nonzero}
use Rattle.word_array.specs.Stored.{place}
use Rattle.word_array.proofs.Counted.{Counted}
use Rattle.word_array.proofs.is_zero.Given as goal

abbrev pub invariant-loop-j : goal.invariant-loop-j
invariant-loop-j l = Counted l.n (λ i. nonzero (place l.w i)) l.j l.found

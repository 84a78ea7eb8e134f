-- `word_alike::signature` meets its contract. The invariant: b blocks are added up; the marks from place n on add nothing.
-- Assumes nothing.
use Prim.Native.Nat.{◌+◌}
use Rattle.word_array.specs.Stored.{place}
use Rattle.word_alike.proofs.Signing.{SignedTo}
use Rattle.word_alike.proofs.signature.Given as goal

abbrev pub invariant-loop-b : goal.invariant-loop-b
invariant-loop-b l = SignedTo l.n (λ j. place l.rows (l.from + j)) l.inside l.b l.sum

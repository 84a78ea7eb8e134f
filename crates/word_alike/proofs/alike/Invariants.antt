-- `word_alike::alike` meets its contract. The invariant: no turn below k fits.
-- Assumes nothing.
use mathlib.Core.Bool.{not}
use Rattle.spec_range.proofs.Loop.{Passing}
use Rattle.sizes.specs.Blocks.{stride}
use Rattle.word_alike.specs.Compared.{turn_ok}
use Rattle.word_alike.proofs.alike.Given as goal

abbrev pub invariant-loop-k : goal.invariant-loop-k
invariant-loop-k l = Passing l.n (λ k. not (turn_ok (stride l.n) l.n l.d k l.t)) l.k

-- `word_packed::pack` meets its contract. The invariant: the symbols below k are packed.
-- Assumes nothing.
use mathlib.Core.Path.{◌≡◌}
use native.Mathlib.Omega.{arith}
use Rattle.word_packed.proofs.Gathering.{gathered_none, gathered_more}
use borrow.Author.Rules.{rules}
use Rattle.word_packed.proofs.pack.Goals as goal

pub loop-k-init : goal.loop-k-init
loop-k-init c = (search rules, gathered_none 8 _)

pub overflow_shl-x : goal.overflow_shl-x
overflow_shl-x c = omega (arith, c.digits_below.ensures)

pub loop-k-preserved : goal.loop-k-preserved
loop-k-preserved c = (search rules, gathered_more 64 c.digits_below.ensures c.from.ensures (search rules) (omega arith) c.loop-k.invariant.1)

pub returns : goal.returns
returns c = let e : c.loop-k.k ≡ 8 = omega arith in let h = rw e at c.loop-k.invariant.1 in (h.is, h.narrow)

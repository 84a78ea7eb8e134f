-- `decode_update::largest` meets its contract. The invariant: the numbers below place j are at most `most`.
-- Assumes nothing.
use native.Mathlib.Nat.{not-suc-le-zero}
use native.Mathlib.Omega.{arith}
use borrow.Author.Count.{below_more}
use borrow.Author.Rules.{rules}
use Rattle.decode_update.proofs.largest.Goals as goal

pub loop-j-init : goal.loop-j-init
loop-j-init c = (search rules, λ k l. absurd (not-suc-le-zero l))

pub loop-j-preserved : goal.loop-j-preserved
loop-j-preserved c =
    let i = c.loop-j.invariant in
    let e = c.max-most.ensures in
    (search rules, below_more _ _ (λ k l. omega (arith, i.1 k l, e)) (omega (arith, e)))

pub returns : goal.returns
returns c = λ k l. c.loop-j.invariant.1 k (omega arith)

-- `book_alike::signature::all_differ` meets its contract. The invariant: `found` adds up how often each number below place l is found.
-- Assumes nothing.
use mathlib.Core.Path.{◌≡◌, sym, ap}
use Prim.Native.Nat.{ℕ, ◌+◌}
use native.Mathlib.Omega.{arith}
use lib.Dec.{eqb}
use Rattle.spec_range.proofs.Loop.{fold_none, fold_step}
use borrow.Author.Rules.{rules}
use Rattle.book_alike.proofs.signature.all_differ.Goals as goal

pub loop-l-init : goal.loop-l-init
loop-l-init c = (sym (fold_none ◌+◌ 0 _), search rules)

pub overflow_add-found : goal.overflow_add-found
overflow_add-found c = omega (arith, c.times-found.ensures.1, c.loop-l.invariant.1)

pub loop-l-preserved : goal.loop-l-preserved
loop-l-preserved c =
    let now = c.loop-l.invariant in
    (fold_step ◌+◌ 0 c.loop-l.l _ now.0 c.times-found.ensures.0, omega (arith, c.times-found.ensures.1, now.1))

pub returns : goal.returns
returns c =
    let e : c.loop-l.l ≡ c.args.count = omega arith in
    ap (λ (x : ℕ). eqb x c.args.count) (rw e at c.loop-l.invariant.0)

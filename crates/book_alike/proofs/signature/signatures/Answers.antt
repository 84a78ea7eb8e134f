-- `book_alike::signature::signatures` meets its contract. The invariant: the signatures below l are stored.
-- Assumes nothing.
use mathlib.Core.Path.{sym, ◌∙◌}
use Prim.Native.Nat.{◌-◌}
use native.Mathlib.Omega.{arith}
use Rattle.book_alike.proofs.Laying.{bodies_part, shift_high, rows_some, rows_taken, signed_none, signed_more}
use borrow.Author.Rules.{rules}
use Rattle.book_alike.proofs.signature.signatures.Goals as goal

pub overflow_shr-most : goal.overflow_shr-most
overflow_shr-most c = search (rules, shift_high c.args.n)

pub nonzero_div-most : goal.nonzero_div-most
nonzero_div-most c = rows_some c.args.n c.shift.ensures

pub loop-l-init : goal.loop-l-init
loop-l-init c = (search rules, search rules, signed_none _ _)

pub lay-requires : goal.lay-requires
lay-requires c =
    let k = rows_taken c.args.n (c.args.duals - c.loop-l.l) c.shift.ensures c.min-k.ensures in
    (bodies_part (omega (arith, k.0)) c.requires, omega (arith, k.1, c.loop-l.invariant.1))

pub sign-requires : goal.sign-requires
sign-requires c =
    let k = rows_taken c.args.n (c.args.duals - c.loop-l.l) c.shift.ensures c.min-k.ensures in (
      c.requires.n_high,
      omega (arith, k.1, c.lay.ensures.long, c.loop-l.invariant.1),
      c.inside-inside.ensures,
      omega (arith, k.0, c.loop-l.invariant.2.long, c.requires.most),
    )

pub loop-l-smaller : goal.loop-l-smaller
loop-l-smaller c = omega (arith, rows_some c.args.n c.shift.ensures, c.loop-l-test.true)

pub loop-l-preserved : goal.loop-l-preserved
loop-l-preserved c =
    let now = c.loop-l.invariant in
    (search rules, now.1 ∙ sym c.lay.ensures.long, signed_more _ _ (omega (arith, c.min-k.ensures)) now.2 c.lay.ensures c.sign.ensures)

pub returns-2 : goal.returns-2
returns-2 c = signed_more _ _ (omega (arith, c.min-k.ensures, c.loop-l-test.true)) c.loop-l.invariant.2 c.lay.ensures c.sign.ensures

-- `book_alike::signature::lay` meets its contract. The invariant: the rows below i are laid.
-- Assumes nothing.
use mathlib.Core.Path.{◌≡◌}
use Prim.Native.Nat.{◌+◌}
use native.Mathlib.Omega.{arith}
use Rattle.sizes.proofs.Lengths.{blocks_fit}
use Rattle.book_alike.proofs.Words.{body_start, body_room}
use Rattle.book_alike.proofs.Laying.{row_within, rows_none, rows_more}
use borrow.Author.Rules.{rules}
use Rattle.book_alike.proofs.signature.lay.Goals as goal

pub loop-i-init : goal.loop-i-init
loop-i-init c = rows_none _ _ _ _ _

pub overflow_add-from : goal.overflow_add-from
overflow_add-from c = search (rules, body_start _ (c.args.l + c.loop-i.i) c.dual_at-from.ensures c.requires.0.room (search rules))

pub overflow_mul-stride-in-loop-i : goal.overflow_mul-stride-in-loop-i
overflow_mul-stride-in-loop-i c = search (rules, row_within c.args.n c.blocks-2.ensures c.loop-i-test.true c.requires.1)

pub lay-requires : goal.lay-requires
lay-requires c =
    let h = c.requires.0 in
    let e = c.blocks-2.ensures in (
      h.n_low,
      h.n_high,
      body_room _ (c.args.l + c.loop-i.i) c.dual_at-from.ensures c.args.n h.room h.spanned (search rules),
      omega (arith, row_within c.args.n e c.loop-i-test.true c.requires.1, e, blocks_fit h.n_high, c.loop-i.invariant.long),
    )

pub loop-i-preserved : goal.loop-i-preserved
loop-i-preserved c =
    let fits = blocks_fit c.requires.0.n_high in
    rows_more _ _ _ _ (omega (arith, c.blocks-2.ensures, fits)) c.dual_at-from.ensures c.loop-i.invariant c.lay.ensures

pub returns : goal.returns
returns c =
    let all : c.loop-i.i ≡ c.args.k = omega arith in
    rw (all, c.blocks-2.ensures) at c.loop-i.invariant

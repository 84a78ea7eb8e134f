-- `book_duals::packed::multiples` meets its contract. The invariant: the rows below 2c are put.
-- Assumes nothing.
use mathlib.Core.Path.{◌∙◌}
use Prim.Native.Nat.{◌+◌, ◌*◌, ◌^◌}
use native.Mathlib.Omega.{arith}
use lib.Pow.{pow_mono}
use Rattle.spec_field.proofs.Doubling.{next_below}
use Rattle.sizes.specs.Blocks.{stride}
use Rattle.sizes.proofs.Lengths.{blocks_low, blocks_high, blocks_fit}
use Rattle.word_table.proofs.Halves.{halves_reached}
use Rattle.word_table.proofs.Rows.{rows_apart}
use Rattle.book_duals.proofs.LaneRows.{lanes-first, lanes_double, lanes_end}
use borrow.Author.Rules.{rules}
use Rattle.book_duals.proofs.packed.multiples.Goals as goal

pub put_first_rows-requires : goal.put_first_rows-requires
put_first_rows-requires c =
    let s = c.requires in
    let two = rows_apart (stride c.args.n) {b = 1} {c = 2 ^ c.args.p} (pow_mono {i = 1} s.0.p_low) in
    (s.0.n_low, s.0.n_high, omega (arith, s.2), omega (arith, two, s.4))

pub loop-c-init : goal.loop-c-init
loop-c-init c = lanes-first c.requires.0 c.put_first_rows.ensures

pub double_row-requires : goal.double_row-requires
double_row-requires c =
    let s = c.requires in
    let q = c.from-q.ensures ∙ c.order.ensures in
    let apart = rows_apart (stride c.args.n) {b = 2 * c.loop-c.c} {c = 2 ^ c.args.p} (omega (arith, q, c.loop-c-test.true)) in
    rw c.blocks-blocks.ensures (
      s.0.p_low,
      s.1,
      c.loop-c.auto.c,
      blocks_low c.args.n,
      omega (arith, apart, s.4, c.put_first_rows.ensures.long, c.loop-c.auto.t),
    )

pub put_next-requires : goal.put_next-requires
put_next-requires c =
    let s = c.requires in
    let q = c.from-q.ensures ∙ c.order.ensures in
    let below = next_below c.args.p c.loop-c.c s.0.p_low (omega (arith, q, c.loop-c-test.true)) in
    let apart = rows_apart (stride c.args.n) {b = 2 * c.loop-c.c + 1} {c = 2 ^ c.args.p} below in
    rw c.blocks-blocks.ensures (
      c.loop-c.auto.c,
      blocks_low c.args.n,
      blocks_high c.args.n,
      omega (arith, apart, s.4, c.put_first_rows.ensures.long, c.loop-c.auto.t, c.double_row.ensures.long),
    )

pub loop-c-preserved : goal.loop-c-preserved
loop-c-preserved c =
    let s = c.requires in
    let e = c.blocks-blocks.ensures in
    lanes_double s.0 c.put_first_rows.ensures s.1 s.3 c.loop-c.auto.c c.loop-c.invariant
    (omega (arith, c.from-q.ensures ∙ c.order.ensures, c.loop-c-test.true))
    (λ k. search rules)
    (rw e at c.double_row.ensures)
    (rw e at c.put_next.ensures)

pub returns : goal.returns
returns c =
    let s = c.requires in
    let first = c.put_first_rows.ensures in
    let q = c.from-q.ensures ∙ c.order.ensures in
    let long = c.loop-c.auto.t ∙ first.long in (
      long,
      lanes_end s.0 first (omega (arith, blocks_fit s.0.n_high)) c.loop-c.invariant
          (halves_reached _ _ s.0.p_low (omega (arith, q, c.loop-c-test.false)))
          s.4
          long,
    )

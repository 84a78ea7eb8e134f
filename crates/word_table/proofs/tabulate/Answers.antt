-- `word_table::tabulate` meets its contract. The invariant: the rows below 2c are put.
-- Assumes nothing.
use mathlib.Core.Path.{refl, ◌∙◌}
use Prim.Native.Nat.{◌+◌, ◌*◌, ◌^◌}
use native.Mathlib.Omega.{arith}
use lib.Pow.{pow_mono}
use Rattle.sizes.specs.Blocks.{stride}
use Rattle.sizes.proofs.Lengths.{blocks_low, blocks_high, blocks_fit}
use Rattle.spec_field.proofs.Doubling.{next_below}
use Rattle.word_table.proofs.Rows.{rows_apart, whole, as_whole, rows_first, rows_stored, rows_double, rows_end}
use Rattle.word_table.proofs.Halves.{halves_reached}
use Rattle.word_table.proofs.tabulate.Goals as goal

pub put_first_rows-requires : goal.put_first_rows-requires
put_first_rows-requires c =
    let s = c.requires in
    let two = rows_apart (stride c.args.n) {b = 1} {c = 2 ^ c.args.p} (pow_mono {i = 1} s.0.p_low) in
    (s.0.n_low, s.0.n_high, s.1, omega (arith, two, s.3))

pub loop-c-init : goal.loop-c-init
loop-c-init c =
    rows_first c.requires.0 c.put_first_rows.ensures (whole c.put_first_rows.ensures c.requires.2)

pub put_double-requires : goal.put_double-requires
put_double-requires c =
    let s = c.requires in
    let q = c.from-q.ensures ∙ c.order.ensures in
    let apart = rows_apart (stride c.args.n) {b = 2 * c.loop-c.c} {c = 2 ^ c.args.p} (omega (arith, q, c.loop-c-test.true)) in
    rw c.blocks-blocks.ensures (
      s.0.p_low,
      s.0.p_high,
      c.loop-c.auto.c,
      blocks_low c.args.n,
      blocks_high c.args.n,
      omega (arith, apart, s.3, c.put_first_rows.ensures.long, c.loop-c.auto.t),
      rows_stored s.0 c.loop-c.auto.c c.loop-c.invariant,
    )

pub put_next-requires : goal.put_next-requires
put_next-requires c =
    let s = c.requires in
    let q = c.from-q.ensures ∙ c.order.ensures in
    let below = next_below c.args.p c.loop-c.c s.0.p_low (omega (arith, q, c.loop-c-test.true)) in
    let apart = rows_apart (stride c.args.n) {b = 2 * c.loop-c.c + 1} {c = 2 ^ c.args.p} below in
    rw c.blocks-blocks.ensures (
      c.loop-c.auto.c,
      blocks_low c.args.n,
      blocks_high c.args.n,
      omega (arith, apart, s.3, c.put_first_rows.ensures.long, c.loop-c.auto.t, c.put_double.ensures.long),
    )

pub loop-c-preserved : goal.loop-c-preserved
loop-c-preserved c =
    let s = c.requires in
    let e = c.blocks-blocks.ensures in
    rows_double s.0 (whole c.put_first_rows.ensures s.2) c.loop-c.auto.c c.loop-c.invariant
    (omega (arith, c.from-q.ensures ∙ c.order.ensures, c.loop-c-test.true))
    (rw e at c.put_double.ensures)
    (λ j l. refl)
    (rw e at c.put_next.ensures)

pub returns : goal.returns
returns c =
    let s = c.requires in
    let first = c.put_first_rows.ensures in
    let q = c.from-q.ensures ∙ c.order.ensures in
    rows_end s.0 first (whole first s.2) (omega (arith, blocks_fit s.0.n_high)) c.loop-c.invariant
    (halves_reached _ _ s.0.p_low (omega (arith, q, c.loop-c-test.false))) (as_whole _) s.3 (c.loop-c.auto.t ∙ first.long)

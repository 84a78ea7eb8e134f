-- `word_table::put_next` meets its contract. The invariant: b blocks of row 2c + 1 are written; rows 1 and 2c stand below them, as they were.
-- Assumes nothing.
use mathlib.Core.Path.{refl, ap, ap₂, ◌∙◌}
use Prim.Native.Nat.{◌+◌, ◌*◌}
use native.Mathlib.Nat.{mul-le-mul_right}
use native.Mathlib.Omega.{arith}
use lib.Bits.{bit_xor}
use Rattle.word_array.specs.Stored.{place}
use Rattle.word_table.proofs.Window.{window_none, window_join, read_table}
use Rattle.word_table.proofs.Rows.{rows_apart, row_put}
use Rattle.word_table.proofs.put_next.Goals as goal

pub overflow_mul-from : goal.overflow_mul-from
overflow_mul-from c = omega (arith, c.requires.3, mul-le-mul_right {m = 1} {n = 128 * c.args.blocks} (2 * c.args.c + 1) (omega (arith, c.requires.1)))

pub loop-b-init : goal.loop-b-init
loop-b-init c = window_none _ _ _

pub loop-b-preserved : goal.loop-b-preserved
loop-b-preserved c =
    let so_far = c.loop-b.invariant in
    let apart = rows_apart (128 * c.args.blocks) {b = 0} {c = 2 * c.args.c} (omega (arith, c.requires.0)) in
    window_join refl (omega arith) (λ k l. refl)
    (λ k l. read_table _ c.add_block.ensures l
    ∙ ap₂ bit_xor
    (read_table _ c.block-sum.ensures l ∙ so_far.low _ (omega (arith, apart)) ∙ ap (place c.args.t.now) (omega arith))
    (so_far.low _ (omega (arith, apart)) ∙ ap (place c.args.t.now) (omega arith)))
    so_far
    c.put_block.ensures

pub returns : goal.returns
returns c = row_put (omega arith) (omega arith) c.loop-b.invariant

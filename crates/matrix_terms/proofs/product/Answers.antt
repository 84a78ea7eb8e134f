-- `matrix_terms::product` meets its contract. The invariant: the first b blocks have their sums.
-- Assumes nothing.
use mathlib.Core.Path.{refl, sym, ap, ◌∙◌, subst}
use Prim.Native.Nat.{ℕ, ◌*◌, ◌^◌, ◌≤◌}
use native.Mathlib.Omega.{arith}
use Rattle.sizes.proofs.Lengths.{shift_is}
use Rattle.word_table.proofs.Window.{window_none, window_join, read_table}
use Rattle.matrix_terms.proofs.Summing.{shift_high, row_summands, row_product}
use Rattle.matrix_terms.proofs.product.Goals as goal

pub overflow_mul-from-2 : goal.overflow_mul-from-2
overflow_mul-from-2 c = omega (arith, (row_summands c.requires.0 c.requires.1 c.blocks-blocks.ensures c.requires.2).within)

pub overflow_add-from : goal.overflow_add-from
overflow_add-from c = omega (arith, (row_summands c.requires.0 c.requires.1 c.blocks-blocks.ensures c.requires.2).within)

pub loop-b-init : goal.loop-b-init
loop-b-init c = window_none 0 _ _

pub product_block-sum-requires : goal.product_block-sum-requires
product_block-sum-requires c = (
  row_summands c.requires.0 c.requires.1 c.blocks-blocks.ensures c.requires.2,
  ap (λ (s : ℕ). 2 ^ s) c.shift-shift.ensures ∙ shift_is _ ∙ ap (λ (x : ℕ). 128 * x) (sym c.blocks-blocks.ensures),
  subst (λ (s : ℕ). s ≤ 9) (sym c.shift-shift.ensures) (shift_high _),
  omega arith,
)

pub loop-b-preserved : goal.loop-b-preserved
loop-b-preserved c =
    window_join (omega arith) (omega arith) (λ k l. refl) (λ k l. read_table _ c.product_block-sum.ensures l) c.loop-b.invariant c.put_block.ensures

pub returns : goal.returns
returns c = λ b row.
    row_product c.requires.0 c.requires.1 c.blocks-blocks.ensures c.requires.2 (omega arith) c.loop-b-test.false c.loop-b.invariant row

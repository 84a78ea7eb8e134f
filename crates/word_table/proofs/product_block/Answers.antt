-- `word_table::product_block` meets its contract. The invariant: the rows of the first u places are summed.
-- Assumes nothing.
use mathlib.Core.Path.{◌≡◌, sym, subst}
use mathlib.Core.List.{List}
use Prim.Native.Nat.{ℕ, ◌+◌, ◌*◌, ◌≤◌, ◌<◌}
use native.Mathlib.Omega.{arith}
use lib.ListN.{length}
use Rattle.word_array.specs.Stored.{place}
use Rattle.word_table.specs.Rows.{Summands}
use Rattle.word_table.proofs.Sums.{summing_none, summing_more, summing_end}
use Rattle.word_table.proofs.product_block.Goals as goal

-- the row of a symbol that was read lies in the table
row_fits : {stride span n count start x : ℕ} {s t : List ℕ} → Summands stride span n count s start t → (u : ℕ) → u < count → x ≡ place s (start + u)
    → stride * x + stride ≤ length t
row_fits {stride} {t = t} ok u l e = subst (λ (x : ℕ). stride * x + stride ≤ length t) (sym e) (ok.row u l)

pub loop-u-init : goal.loop-u-init
loop-u-init c = summing_none _ 64 _ _ _ _ _

pub overflow_mul-blocks-in-loop-u : goal.overflow_mul-blocks-in-loop-u
overflow_mul-blocks-in-loop-u c = omega (arith, row_fits c.requires.0 _ c.loop-u-test.true c.from-x.ensures)

pub overflow_add-blocks : goal.overflow_add-blocks
overflow_add-blocks c = omega (arith, row_fits c.requires.0 _ c.loop-u-test.true c.from-x.ensures, c.requires.0.fits)

pub overflow_add-blocks-in-loop-u : goal.overflow_add-blocks-in-loop-u
overflow_add-blocks-in-loop-u c = omega (arith, row_fits c.requires.0 _ c.loop-u-test.true c.from-x.ensures, c.requires.0.fits)

pub add_block-requires : goal.add_block-requires
add_block-requires c = (
  omega (arith, row_fits c.requires.0 _ c.loop-u-test.true c.from-x.ensures, c.requires.0.fits),
  c.loop-u.invariant.long,
)

pub loop-u-preserved : goal.loop-u-preserved
loop-u-preserved c = summing_more c.loop-u.invariant (omega arith) c.from-x.ensures c.add_block.ensures

pub returns : goal.returns
returns c = summing_end c.loop-u.invariant (omega arith)

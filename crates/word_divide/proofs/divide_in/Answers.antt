-- `word_divide::divide_in` meets its contract. The invariant: the remainder of the coefficients from place i on stands from place i on, and the quotient's
-- places from i on are written.
-- Assumes nothing.
use mathlib.Core.Path.{◌≡◌}
use mathlib.Core.List.{List}
use Prim.Native.Nat.{ℕ, ◌+◌, ◌-◌, ◌*◌, ◌≤◌, ◌<◌}
use native.Mathlib.Omega.{arith}
use lib.ListN.{length}
use Rattle.sizes.specs.Blocks.{blocks, span, stride}
use Rattle.word_array.specs.Stored.{place}
use Rattle.word_divide.specs.Window.{Dividend}
use Rattle.word_divide.proofs.Dividing.{Dividing, dividing_start, dividing-more, dividing-end, row_within}
use borrow.Author.Rules.{rules}
use Rattle.word_divide.proofs.divide_in.Goals as goal

-- the row of the top coefficient lies in the table
row_fits : {p n d k i count c : ℕ} {t v₀ q₀ q v : List ℕ} → Dividend (stride n) (span n) p n d k t v₀ → Dividing (stride n) p n d k t v₀ q₀ i q v → 0 < i
    → c ≡ place v (i - 1 + d) → count ≡ blocks n → 128 * count * c + 64 * count ≤ length t
row_fits ok now left top e = rw e (row_within ok now left top)

pub loop-i-preserved : goal.loop-i-preserved
loop-i-preserved c =
    dividing-more c.requires.0 c.loop-i.invariant (search rules) c.from.ensures c.requires.1 (rw c.blocks-blocks.ensures at c.add_row_at.ensures)

pub loop-i-init : goal.loop-i-init
loop-i-init c = dividing_start c.requires.0 _

pub overflow_mul-blocks-in-loop-i : goal.overflow_mul-blocks-in-loop-i
overflow_mul-blocks-in-loop-i c = omega (arith, row_fits c.requires.0 c.loop-i.invariant (search rules) c.from.ensures c.blocks-blocks.ensures)

pub add_row_at-requires : goal.add_row_at-requires
add_row_at-requires c =
    let s = c.requires.0 in
    let now = c.loop-i.invariant in (
      omega (arith, row_fits s now (search rules) c.from.ensures c.blocks-blocks.ensures),
      omega (arith, c.blocks-blocks.ensures, now.within, now.long, s.k_high, s.degree_pos, s.long),
    )

pub returns : goal.returns
returns c = dividing-end c.requires.0 c.loop-i.invariant (search rules)

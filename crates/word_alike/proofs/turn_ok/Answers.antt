-- `word_alike::turn_ok` meets its contract: the symbol tells the row.
-- Assumes nothing.
use mathlib.Core.Path.{◌≡◌, ap, ap₂, ◌∙◌}
use Prim.Native.Nat.{ℕ, ◌*◌}
use borrow.Author.Tests.{eq-eqb, ne_eqb}
use Rattle.sizes.specs.Blocks.{blocks, stride}
use Rattle.sizes.proofs.Lengths.{blocks_high, blocks_fit}
use Rattle.word_alike.specs.Compared.{turn_ok, same_row}
use borrow.Author.Rules.{rules}
use Rattle.word_alike.proofs.turn_ok.Goals as goal

-- where the symbol's row is
row_at : (n : ℕ) {b c x : ℕ} → b ≡ blocks n → c ≡ x → 128 * b * c ≡ stride n * x
row_at n e f = ap₂ (λ (b x : ℕ). 128 * b * x) e f

pub returns : goal.returns
unfolding turn_ok
returns c =
    let s = c.args in
    rw (ne_eqb _ _ c.if-c-eq0.false)
    (c.same_row.ensures ∙ ap (same_row s.n s.d.now s.k s.t.now) (row_at c.args.n c.blocks-2.ensures c.from.ensures))

pub returns-then-c-eq0 : goal.returns-then-c-eq0
unfolding turn_ok
returns-then-c-eq0 c = rw (eq-eqb _ _ c.if-c-eq0.true)

pub overflow_mul-blocks : goal.overflow_mul-blocks
overflow_mul-blocks c = search (rules, blocks_high c.args.n)

pub overflow_mul-blocks-2 : goal.overflow_mul-blocks-2
overflow_mul-blocks-2 c = search (rules, row_at c.args.n c.blocks-2.ensures c.from.ensures)

pub same_row-requires : goal.same_row-requires
same_row-requires c = search (rules, row_at c.args.n c.blocks-2.ensures c.from.ensures, blocks_fit c.requires.0)

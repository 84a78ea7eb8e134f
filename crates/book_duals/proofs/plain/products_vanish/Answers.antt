-- `book_duals::plain::products_vanish` meets its contract. The invariant: the products of the dual words below l are joined.
-- Assumes nothing.
use mathlib.Core.Path.{refl, ◌∙◌}
use native.Mathlib.Nat.{le_refl}
use native.Mathlib.Omega.{arith}
use Rattle.spec_range.proofs.Loop.{zero_at}
use Rattle.sizes.proofs.Lengths.{blocks_high, blocks_fit}
use Rattle.book_duals.specs.Duals.{product_ok}
use Rattle.book_duals.proofs.Places.{dual_fits}
use Rattle.book_duals.proofs.DualProduct.{dual_row, dual_zeros}
use Rattle.book_duals.proofs.Joined.{joined_none, joined_more, joined_end}
use borrow.Author.Rules.{rules}
use Rattle.book_duals.proofs.plain.products_vanish.Goals as goal

pub loop-l-init : goal.loop-l-init
loop-l-init c = (search rules, search rules, joined_none _ _ _ (λ j d. zero_at 256 j))

pub overflow_add-dual_at : goal.overflow_add-dual_at
overflow_add-dual_at c = search (rules, dual_fits c.args.book.now c.requires.0.room c.loop-l-test.true c.dual_at.ensures)

pub product-requires : goal.product-requires
product-requires c =
    let h = c.requires in
    let fits = blocks_fit h.0.sizes.n_high in (
      record {
        fits = omega (arith, fits);
        within = le_refl _;
        room = omega (arith, dual_fits c.args.book.now h.0.room c.loop-l-test.true c.dual_at.ensures, h.0.spanned, fits);
        row = dual_row h.0 h.1 c.loop-l-test.true (omega (arith, c.dual_at.ensures));
      },
      omega (arith, blocks_high c.args.n, c.loop-l.invariant.1),
    )

pub join-requires : goal.join-requires
join-requires c =
    let most = blocks_high c.args.n in
    rw c.blocks-blocks.ensures (omega (arith, most, c.product.ensures.long, c.loop-l.invariant.1), omega (arith, most, c.loop-l.invariant.0))

pub loop-l-preserved : goal.loop-l-preserved
loop-l-preserved c =
    let h = c.requires in
    let fits = blocks_fit h.0.sizes.n_high in (
      c.join.ensures.long ∙ c.loop-l.invariant.0,
      c.product.ensures.long ∙ c.loop-l.invariant.1,
      joined_more c.loop-l.invariant.2 (omega (arith, fits, c.blocks-blocks.ensures)) refl
          (dual_zeros h.0 h.1 c.loop-l-test.true (omega (arith, c.dual_at.ensures)) (omega (arith, fits)) c.product.ensures)
          c.join.ensures,
    )

pub returns : goal.returns
unfolding product_ok
returns c = c.is_zero.ensures ∙ joined_end c.loop-l.invariant.2 (omega arith)

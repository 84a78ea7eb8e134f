-- `book_duals::packed::product_of` meets its contract: the table is that of the packed words, and the product with the generator has theirs.
-- Assumes nothing.
use mathlib.Core.Path.{◌∙◌}
use native.Mathlib.Nat.{le_refl}
use native.Mathlib.Omega.{arith}
use Rattle.sizes.specs.Blocks.{stride}
use Rattle.sizes.proofs.Lengths.{blocks_fit}
use Rattle.book_duals.proofs.LaneProduct.{generator_row, packed-digits, packed-zeros}
use borrow.Author.Rules.{rules}
use Rattle.book_duals.proofs.packed.product_of.Goals as goal

pub multiples-requires : goal.multiples-requires
multiples-requires c =
    let h = c.requires in (
      h.0.sizes,
      h.1,
      omega (arith, h.4, c.packed.ensures.long),
      packed-digits h.0 h.1 c.args.l c.args.k h.2 (le_refl _) c.packed.ensures,
      h.3,
    )

pub product-requires : goal.product-requires
product-requires c =
    let h = c.requires in
    let fits = blocks_fit h.0.sizes.n_high in (
      record {
        fits = omega (arith, fits);
        within = le_refl _;
        room = omega (arith, h.0.room, h.0.spanned, fits);
        row = generator_row h.0 h.1 (stride c.args.n) (omega (arith, h.3, c.multiples.ensures.0));
      },
      omega (arith, h.4, c.packed.ensures.long),
    )

pub returns : goal.returns
returns c =
    let h = c.requires in (
      c.multiples.ensures.0,
      c.product.ensures.long ∙ c.packed.ensures.long,
      packed-zeros h.0 h.1 c.args.l c.args.k h.2 (le_refl _) c.packed.ensures c.args.t.now _ c.multiples.ensures.1 (λ k. search rules) c.product.ensures,
    )

-- `matrix_scatter::count_duals` meets its contract. The invariant: the dual words below l are counted.
-- Assumes nothing.
use mathlib.Core.Path.{refl}
use native.Mathlib.Nat.{zero-add}
use native.Mathlib.Omega.{arith}
use Rattle.sizes.proofs.Lengths.{blocks_high}
use Rattle.matrix_terms.proofs.Raised.{adding_none}
use Rattle.matrix_terms.proofs.Received.{table_le, word_read}
use Rattle.matrix_scatter.proofs.Duals.{logged, dual-started, dual-countable, dual-more, counter-end, counters-most}
use Rattle.matrix_scatter.proofs.count_duals.Goals as goal

pub loop-l-preserved : goal.loop-l-preserved
loop-l-preserved c = (
  omega (arith, c.product.auto, c.loop-l.invariant.0),
  omega (arith, c.offsets.auto, c.loop-l.invariant.1),
  record {
    counted = λ b h.
        dual-more c.requires h _ c.row_starts-starts.ensures (c.loop-l.invariant.2.counted b h) c.loop-l-test.true
        (c.product.ensures (b _) (h.row_of _ c.loop-l-test.true)) c.loop-l.invariant.1 c.offsets.ensures _ c.count_dual.ensures;
  },
)

pub row_starts-starts-requires : goal.row_starts-starts-requires
row_starts-starts-requires c = (c.requires.terms_of.numbers.sizes, logged c.requires.terms_of.numbers)

pub tabulate-requires : goal.tabulate-requires
tabulate-requires c = (
  c.requires.terms_of.numbers.sizes,
  omega (arith, c.requires.room),
  λ j l. rw zero-add (c.requires.word j l),
  omega (arith, table_le c.requires.terms_of.numbers.sizes),
)

pub loop-l-init : goal.loop-l-init
loop-l-init c = (refl, refl, record { counted = λ b h. adding_none _ _ _ })

pub product-requires : goal.product-requires
product-requires c = (
  c.requires.terms_of.numbers,
  omega arith,
  c.tabulate.ensures.multiples,
  omega (arith, c.loop-l.invariant.0, blocks_high c.args.n),
)

pub offsets-requires : goal.offsets-requires
offsets-requires c =
    let h = c.requires.terms_of in (
      h.numbers.sizes.n_high,
      omega (arith, h.numbers.sizes.n_high, c.product.auto, c.loop-l.invariant.0),
      omega (arith, h.numbers.sizes.n_high, c.loop-l.invariant.1),
      dual-started c.requires h _ c.row_starts-starts.ensures (c.loop-l.invariant.2.counted _ h) c.loop-l-test.true
          (c.product.ensures _ (h.row_of _ c.loop-l-test.true)),
    )

pub count_dual-requires : goal.count_dual-requires
count_dual-requires c =
    let h = c.requires.terms_of in
    dual-countable c.requires h _ c.row_starts-starts.ensures (c.loop-l.invariant.2.counted _ h) c.loop-l-test.true
    (c.product.ensures _ (h.row_of _ c.loop-l-test.true)) c.loop-l.invariant.1 c.offsets.ensures

pub returns : goal.returns
returns c = record {
  counter = λ b h.
      counter-end c.requires h _ c.row_starts-starts.ensures (c.loop-l.invariant.2.counted b h) (word_read _ c.tabulate.ensures) c.loop-l-test.false;
  most = counters-most c.requires c.requires.terms_of _ c.row_starts-starts.ensures (c.loop-l.invariant.2.counted _ c.requires.terms_of) c.loop-l-test.false;
}

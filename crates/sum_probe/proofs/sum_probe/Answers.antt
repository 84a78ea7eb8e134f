-- `sum_probe::sum_probe` meets its contract.
-- Assumes nothing.
use mathlib.Core.Path.{sym, ap, ◌∙◌}
use native.Mathlib.Nat.{le_of_eq}
use native.Mathlib.Omega.{arith}
use lib.ListN.{length}
use Rattle.spec_range.proofs.Loop.{padded-length}
use Rattle.sum_probe.proofs.Adding.{lengths, refused, written}
use Rattle.sum_probe.proofs.sum_probe.Goals as goal

pub add-w-requires : goal.add-w-requires
add-w-requires c =
    let h = lengths _ _ _ (sym c.fits.ensures ∙ c.if-fits.true) in
    (h.0, le_of_eq (sym h.1), le_of_eq (sym h.2))

pub store-requires : goal.store-requires
store-requires c =
    let h = lengths _ _ _ (sym c.fits.ensures ∙ c.if-fits.true) in
    omega (arith, h.0, ap length (c.add-w.ensures 1) ∙ padded-length 255 _ _)

pub returns-then-fits : goal.returns-then-fits
returns-then-fits c =
    let sum = sym c.fits.ensures ∙ c.if-fits.true in (
      rw sum,
      written c.args.a.now c.args.b.now c.args.out.now sum c.add-w.ensures
          c.store.ensures,
    )

pub returns : goal.returns
returns c =
    let no-sum = sym c.fits.ensures ∙ c.if-fits.false in
    (rw no-sum, refused c.args.a.now c.args.b.now c.args.out.now no-sum)

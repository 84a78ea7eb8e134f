-- `refusals::refusal` meets its contract.
-- Assumes nothing.
use mathlib.Core.Path.{sym}
use borrow.Author.Tests.{not-true, not-false}
use Rattle.spec_book.specs.Conditions.{input_refusal}
use Rattle.std.proofs.lemmas.Bool.{not_from_true, not_from_false}
use Rattle.refusals.proofs.refusal.Goals as goal

pub returns-then-not-fits : goal.returns-then-not-fits
unfolding input_refusal
returns-then-not-fits c = rw (not-true c.args.fits (not_from_false _ c.if-not-fits.true))

pub returns-then-not-exact : goal.returns-then-not-exact
unfolding input_refusal
returns-then-not-exact c = rw (
  not-false c.args.fits (not_from_true _ c.if-not-fits.false),
  not-true c.args.exact (not_from_false _ c.if-not-exact.true),
)

pub returns-then-not-symbols_ok : goal.returns-then-not-symbols_ok
unfolding input_refusal
returns-then-not-symbols_ok c = rw (
  not-false c.args.fits (not_from_true _ c.if-not-fits.false),
  not-false c.args.exact (not_from_true _ c.if-not-exact.false),
  sym c.if-not-symbols_ok.ensures,
)

pub returns : goal.returns
unfolding input_refusal
returns c = rw (
  not-false c.args.fits (not_from_true _ c.if-not-fits.false),
  not-false c.args.exact (not_from_true _ c.if-not-exact.false),
  sym c.if-not-symbols_ok.ensures,
)

-- `book_duals::products_vanish` meets its contract.
-- Assumes nothing.
use mathlib.Core.Path.{sym, ◌∙◌}
use native.Mathlib.Omega.{arith}
use borrow.Author.Tests.{ltb-true}
use borrow.Author.Rules.{rules}
use Rattle.book_duals.proofs.products_vanish.Goals as goal

pub products_vanish-requires : goal.products_vanish-requires
products_vanish-requires c = (search rules, omega (arith, ltb-true c.args.p 4 (sym c.few.ensures ∙ c.if-few.true)))

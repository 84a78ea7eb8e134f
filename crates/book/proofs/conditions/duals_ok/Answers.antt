-- `book::conditions::duals_ok` meets its contract: the weights and the products are those of the book's dual words.
-- Assumes nothing.
use Rattle.book.proofs.DualWords.{lying, tested, weights_fail, products_decide, table}
use Rattle.book.proofs.conditions.duals_ok.Goals as goal

pub weights_ok-requires : goal.weights_ok-requires
weights_ok-requires c = lying c.requires.0 c.requires.1

pub returns-then-not-weights_ok : goal.returns-then-not-weights_ok
returns-then-not-weights_ok c = weights_fail c.requires.0 c.requires.1 c.if-not-weights_ok.ensures

pub products_vanish-requires : goal.products_vanish-requires
products_vanish-requires c = (tested c.requires.0 c.requires.1, table c.requires.2)

pub returns : goal.returns
returns c = products_decide c.requires.0 c.requires.1 c.if-not-weights_ok.ensures c.products_vanish.ensures

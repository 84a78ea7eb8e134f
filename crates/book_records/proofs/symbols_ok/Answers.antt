-- `book_records::symbols_ok` meets its contract: each return rewrites with the tests that led there.
-- Assumes nothing.
use mathlib.Core.Path.{sym}
use Rattle.spec_book.specs.Conditions.{symbols_ok}
use Rattle.spec_book.proofs.Accepting.{sizes}
use Rattle.book_records.proofs.Bounded.{bounded}
use Rattle.book_records.proofs.Tested.{generator_body}
use Rattle.book_records.proofs.symbols_ok.Goals as goal

pub order-q-requires : goal.order-q-requires
order-q-requires c = (sizes _ c.requires.2).p_high

pub word_length-n-requires : goal.word_length-n-requires
word_length-n-requires c = (sizes _ c.requires.2).s_high

pub body_ok-requires : goal.body_ok-requires
body_ok-requires c = (
  generator_body c.requires.0 c.requires.1,
  bounded c.requires.2 c.order-q.ensures c.word_length-n.ensures.0 c.bounds-bounds.ensures c.record-blocks.ensures.0,
)

pub returns-then-not-body_ok : goal.returns-then-not-body_ok
unfolding symbols_ok
returns-then-not-body_ok c = rw (sym c.if-not-body_ok.ensures)

pub dual_bodies_ok-requires : goal.dual_bodies_ok-requires
dual_bodies_ok-requires c = (
  c.requires.0,
  c.requires.1,
  bounded c.requires.2 c.order-q.ensures c.word_length-n.ensures.0 c.bounds-bounds.ensures c.record-blocks.ensures.0,
)

pub returns : goal.returns
unfolding symbols_ok
returns c = rw (sym c.if-not-body_ok.ensures) c.dual_bodies_ok.ensures

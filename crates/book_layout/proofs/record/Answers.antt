-- `book_layout::record` meets its contract: the width is that of the book's form.
-- Assumes nothing.
use Rattle.spec_book.specs.Layout.{width}
use Rattle.book_layout.proofs.record.Goals as goal

pub returns : goal.returns
unfolding width
returns c = rw c.is_long.ensures at c.record_of.ensures

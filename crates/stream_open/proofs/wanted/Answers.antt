-- `stream_open::wanted` meets its contract: each return is a case of the definition.
-- Assumes nothing.
use mathlib.Core.Path.{sym}
use native.Mathlib.Omega.{arith}
use Rattle.stream_open.proofs.Judging.{wanted_none, wanted_too_long, wanted_all}
use Rattle.stream_open.proofs.wanted.Goals as goal

pub returns-then-got-lt-FIELD : goal.returns-then-got-lt-FIELD
returns-then-got-lt-FIELD c = (sym (wanted_none _ _ c.requires.0 c.requires.1 c.if-got-lt-FIELD.true), omega arith)

pub returns-then-size-gt-BOOK : goal.returns-then-size-gt-BOOK
returns-then-size-gt-BOOK c =
    (sym (wanted_too_long _ _ c.requires.0 c.requires.1 c.if-got-lt-FIELD.false c.book_length-size.ensures c.if-size-gt-BOOK.true), omega arith)

pub returns : goal.returns
returns c =
    (sym (wanted_all _ _ c.requires.0 c.requires.1 c.if-got-lt-FIELD.false c.book_length-size.ensures c.if-size-gt-BOOK.false), omega arith)

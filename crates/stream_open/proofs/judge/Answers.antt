-- `stream_open::judge` meets its contract: each return is a case of the definition.
-- Assumes nothing.
use mathlib.Core.Path.{sym}
use Rattle.std.proofs.lemmas.Result.{err_from_is_err_and}
use Rattle.book.proofs.Rooms.{any_room}
use Rattle.stream_open.proofs.Judging.{told-short-field, told-too-long, told-short-book, told-whole-book}
use Rattle.stream_open.proofs.judge.Goals as goal

pub returns-then-got-lt-FIELD : goal.returns-then-got-lt-FIELD
returns-then-got-lt-FIELD c =
    told-short-field _ _ c.requires.0 c.requires.1 _ c.if-got-lt-FIELD.true

pub returns-then-size-gt-BOOK : goal.returns-then-size-gt-BOOK
returns-then-size-gt-BOOK c =
    told-too-long _ _ c.requires.0 c.requires.1 _ c.if-got-lt-FIELD.false c.book_length-size.ensures c.if-size-gt-BOOK.true

pub returns-then-book-size : goal.returns-then-book-size
returns-then-book-size c =
    told-short-book _ _ c.requires.0 c.requires.1 _ c.if-got-lt-FIELD.false c.book_length-size.ensures c.if-size-gt-BOOK.false
    c.if-book-size.true

pub open-requires : goal.open-requires
open-requires c = any_room _ (sym c.requires.2)

pub returns-in_err-c : goal.returns-in_err-c
returns-in_err-c c =
    let p = err_from_is_err_and c.from_residual.result c.from_residual.ensures.1 in
    rw (p.1, p.2) (told-whole-book _ _ c.requires.0 c.requires.1 _ c.if-got-lt-FIELD.false c.book_length-size.ensures c.if-size-gt-BOOK.false
    c.if-book-size.false c.in_err-c.ensures.0.0)

pub returns : goal.returns
returns c =
    let open_book = c.in_ok-c.ensures.0 in
    let told = told-whole-book _ _ c.requires.0 c.requires.1 _ c.if-got-lt-FIELD.false c.book_length-size.ensures c.if-size-gt-BOOK.false
    c.if-book-size.false (sym open_book.0.accepted) in
    (told, open_book.0, open_book.1)

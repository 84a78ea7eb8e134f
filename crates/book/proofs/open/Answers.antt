-- `book::open` meets its contract: the number is one from 1 to 4, or the bytes are readable.
-- Assumes nothing.
use mathlib.Core.Path.{refl, sym}
use native.Mathlib.Nat.{le_trans}
use Rattle.std.proofs.lemmas.Result.{err_from_is_err_and}
use Rattle.refusal.proofs.Numbers.{number_positive, number-not_zero}
use Rattle.spec_book.proofs.Accepting.{sizes}
use Rattle.book_records.proofs.Tested.{readable_records}
use Rattle.book.proofs.Gathering.{records_number}
use Rattle.book.proofs.Rooms.{room_fits}
use Rattle.book.proofs.open.Goals as goal

pub returns-in_err-refusal : goal.returns-in_err-refusal
returns-in_err-refusal c =
    let p = err_from_is_err_and c.from_residual.result c.from_residual.ensures.1 in
    rw (p.1, p.2) ((records_number _ c.in_err-refusal.ensures (number-not_zero _), number_positive _), refl)

pub open_readable-requires : goal.open_readable-requires
open_readable-requires c =
    let r = readable_records _ (sym c.in_ok-refusal.ensures) in
    (r, le_trans (room_fits _ (sizes _ r.sizes)) c.requires)

pub returns : goal.returns
returns c = c.open_readable.ensures

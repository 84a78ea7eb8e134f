-- `book_alike::compare::seen_before` meets its contract: a signature that is found once tells it, else the words before it are looked at.
-- Assumes nothing.
use mathlib.Core.Path.{refl, sym}
use native.Mathlib.Omega.{arith}
use Rattle.book_alike.proofs.Words.{body_room, body_symbol, table_of}
use Rattle.book_alike.proofs.Differing.{told_once, once_differs}
use Rattle.std.proofs.lemmas.Bool.{not_from_false}
use Rattle.book_alike.proofs.compare.seen_before.Goals as goal

pub returns-then-not-repeated : goal.returns-then-not-repeated
returns-then-not-repeated c =
    (sym (once_differs c.requires.0 c.requires.1 c.args.l (omega arith) (told_once c.repeated.ensures (not_from_false _ c.if-not-repeated.true))), refl)

pub tabulate-requires : goal.tabulate-requires
tabulate-requires c =
    let h = c.requires.0.tested in
    let e = c.dual_at.ensures in
    let l = c.args.l in
    (h.sizes, body_room _ l e c.args.n h.room h.spanned (omega arith), body_symbol _ l e h (omega arith), c.requires.2)

pub like_earlier-requires : goal.like_earlier-requires
like_earlier-requires c = (c.requires.0, c.requires.1, table_of _ c.args.l c.dual_at.ensures c.tabulate.ensures)

pub returns : goal.returns
returns c = (c.like_earlier.ensures, c.tabulate.ensures.long)

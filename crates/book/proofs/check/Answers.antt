-- `book::check` meets its contract: either room is what opening asks for.
-- Assumes nothing.
use mathlib.Core.Path.{◌≡◌, refl, sym, ◌∙◌}
use mathlib.Core.Bool.{Bool, true, false, true≢false, cond}
use native.Mathlib.Omega.{arith}
use Rattle.book.proofs.Rooms.{few_room, any_room}
use Rattle.book.proofs.check.Goals as goal

-- the smallest room is for short books with few symbols
both : (long few : Bool) → cond long false few ≡ true → (few ≡ true) × (long ≡ false)
both true few e = absurd (true≢false (sym e))
both false few e = (e, refl)

pub check_in-requires : goal.check_in-requires
check_in-requires c =
    let small = both _ _ (sym c.small_table.ensures ∙ c.if-small_table.true) in
    (few_room _ small.0 small.1 refl, omega arith)

pub check_in-requires-else-small_table : goal.check_in-requires-else-small_table
check_in-requires-else-small_table c = (any_room _ refl, omega arith)

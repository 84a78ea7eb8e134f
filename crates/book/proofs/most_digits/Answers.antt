-- `book::most_digits` meets its contract.
-- Assumes nothing.
use mathlib.Core.Path.{sym, ◌∙◌}
use Rattle.book.proofs.most_digits.Goals as goal

pub returns-then-is_long : goal.returns-then-is_long
returns-then-is_long c = rw (sym c.is_long.ensures ∙ c.if-is_long.true)

pub returns-else-is_long : goal.returns-else-is_long
returns-else-is_long c = rw (sym c.is_long.ensures ∙ c.if-is_long.false)

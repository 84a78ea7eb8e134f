-- `book::small_table` meets its contract.
-- Assumes nothing.
use mathlib.Core.Path.{sym, ◌∙◌}
use Rattle.book.proofs.small_table.Goals as goal

pub returns-then-is_long : goal.returns-then-is_long
returns-then-is_long c = rw (sym c.is_long.ensures ∙ c.if-is_long.true)

pub returns : goal.returns
returns c = rw (sym c.is_long.ensures ∙ c.if-is_long.false) c.few_symbols.ensures

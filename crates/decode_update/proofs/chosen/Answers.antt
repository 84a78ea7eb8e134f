-- `decode_update::chosen` meets its contract: each return rewrites with the test that led there.
-- Assumes nothing.
use mathlib.Core.Path.{sym, ap}
use mathlib.Core.Bool.{Bool, cond}
use borrow.Author.Rules.{rules}
use Rattle.decode_update.proofs.chosen.Goals as goal

pub returns-then-inside : goal.returns-then-inside
returns-then-inside c = (sym (ap (λ (b : Bool). cond b c.args.symbol 0) c.if-inside.true), search rules, search rules)

pub returns-else-inside : goal.returns-else-inside
returns-else-inside c = (sym (ap (λ (b : Bool). cond b c.args.symbol 0) c.if-inside.false), search rules, search rules)

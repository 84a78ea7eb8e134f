-- `decode_rounds::changed` meets its contract.
-- Assumes nothing.
use mathlib.Core.Path.{sym, ap}
use mathlib.Core.Bool.{false}
use Rattle.decode_rounds.specs.Rounds.{step_of}
use Rattle.decode_rounds.proofs.changed.Goals as goal

pub returns-then-zero : goal.returns-then-zero
returns-then-zero c = ap (step_of false) (sym c.if-zero.true)

pub returns : goal.returns
returns c = ap (step_of false) (sym c.if-zero.false)

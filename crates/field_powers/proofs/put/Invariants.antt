-- `field_powers::put` meets its contract. The invariant: the exponents below e are put, and `symbol` is the next power.
-- Assumes nothing.
use Rattle.field_powers.proofs.Logging.{Logging}
use Rattle.field_powers.proofs.put.Given as goal

abbrev pub invariant-loop-e : goal.invariant-loop-e
invariant-loop-e l = Logging l.p l.round l.initial.room l.room l.symbol l.e

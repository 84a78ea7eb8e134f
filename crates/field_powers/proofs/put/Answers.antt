-- `field_powers::put` meets its contract. The invariant: the exponents below e are put, and `symbol` is the next power.
-- Assumes nothing.
use Prim.Native.Nat.{ℕ, ◌+◌, ◌-◌, ◌^◌}
use mathlib.Core.Path.{◌≡◌, ◌∙◌}
use native.Mathlib.Omega.{arith}
use lib.ListN.{length-set}
use lib.Pow.{pow_pos}
use Rattle.field_powers.proofs.Laws.{power_below}
use Rattle.field_powers.proofs.Logging.{logging_none, logging_more, logging_end, round_le, power_fits}
use Rattle.field_powers.proofs.put.Goals as goal

-- a round is one less than the count of symbols
round_more : (p : ℕ) {q : ℕ} → q ≡ 2 ^ p → q - 1 + 1 ≡ 2 ^ p
round_more p e = omega (arith, pow_pos p)

pub loop-e-init : goal.loop-e-init
loop-e-init c = logging_none _ _ c.args.room.now c.requires.2

pub loop-e-preserved : goal.loop-e-preserved
loop-e-preserved c =
    logging_more c.requires.0 c.requires.1 (round_more _ (c.from-round.ensures ∙ c.order.ensures)) c.args.room.now c.requires.2 c.loop-e.invariant
    c.loop-e-test.true c.double-symbol.ensures.0

pub returns : goal.returns
returns c =
    logging_end c.requires.0 c.requires.1 (round_more _ (c.from-round.ensures ∙ c.order.ensures)) c.args.room.now c.requires.2 c.loop-e.invariant
    c.loop-e-test.false

pub bounds-room-round : goal.bounds-room-round
bounds-room-round c =
    simp length-set
    (omega (arith, length-set c.args.room.now 0 0, round_le _ c.requires.1 (round_more _ (c.from-round.ensures ∙ c.order.ensures))))

pub bounds-room-symbol : goal.bounds-room-symbol
bounds-room-symbol c =
    simp length-set
    (omega (arith, length-set c.args.room.now 0 0, c.loop-e.invariant.symbol_is, power_fits c.requires.0 c.requires.1 c.loop-e.e))

pub double-symbol-requires : goal.double-symbol-requires
double-symbol-requires c = (c.requires.0, c.requires.1, rw c.loop-e.invariant.symbol_is (power_below _ c.requires.0 c.requires.1 c.loop-e.e))

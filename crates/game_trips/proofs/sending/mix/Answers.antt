-- `game_trips::sending::mix` meets its contract. The invariant: the first j symbols of the word are put.
-- Assumes nothing.
use mathlib.Core.Path.{refl}
use Prim.Native.Nat.{◌*◌}
use native.Mathlib.Nat.{le_refl}
use native.Mathlib.Omega.{arith}
use Rattle.burst.proofs.Working.{within, burst_small}
use Rattle.game_trips.proofs.Mixing.{put_none, put_more, put_end}
use Rattle.game_trips.proofs.sending.mix.Goals as goal

pub loop-j-init : goal.loop-j-init
loop-j-init c = put_none

pub overflow_mul-out : goal.overflow_mul-out
overflow_mul-out c =
    let h = c.requires in
    omega (arith, within c.loop-j.j c.args.m _ _ c.loop-j-test.true h.2 (le_refl (c.args.n * c.args.words)), burst_small h.0 h.1)

pub overflow_add-out : goal.overflow_add-out
overflow_add-out c =
    let h = c.requires in
    omega (arith, within c.loop-j.j c.args.m _ _ c.loop-j-test.true h.2 (le_refl (c.args.n * c.args.words)), burst_small h.0 h.1)

pub bounds-out-j : goal.bounds-out-j
bounds-out-j c = omega (arith, within c.loop-j.j c.args.m _ _ c.loop-j-test.true c.requires.2 c.requires.4, c.loop-j.invariant.long)

pub loop-j-preserved : goal.loop-j-preserved
loop-j-preserved c =
    let h = c.requires in
    let i = c.loop-j.invariant in
    put_more h.2 (omega (arith, within c.loop-j.j c.args.m _ _ c.loop-j-test.true h.2 h.4, i.long)) refl i

pub returns : goal.returns
returns c = put_end (omega arith) c.loop-j.invariant

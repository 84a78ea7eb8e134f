-- `burst::words::unmix` meets its contract. The invariant: the places below j are those of word m.
-- Assumes nothing.
use mathlib.Core.Path.{refl}
use Prim.Native.Nat.{◌*◌}
use native.Mathlib.Nat.{le_refl}
use native.Mathlib.Omega.{arith}
use borrow.Author.Rules.{rules}
use Rattle.spec_range.proofs.Loop.{held_none, held_more}
use Rattle.word_array.proofs.Filled.{held_end}
use Rattle.burst.proofs.Working.{within, burst_small}
use Rattle.burst.proofs.words.unmix.Goals as goal

pub loop-j-init : goal.loop-j-init
loop-j-init c = (search rules, held_none 255 _)

pub overflow_mul-w : goal.overflow_mul-w
overflow_mul-w c =
    let h = c.requires in
    let x = c.args in
    let at = within c.loop-j.j x.m x.n x.words c.loop-j-test.true h.2 (le_refl (x.n * x.words)) in
    omega (arith, at.0, at.1, burst_small h.0 h.1)

pub overflow_add-w : goal.overflow_add-w
overflow_add-w c =
    let h = c.requires in
    let x = c.args in
    let at = within c.loop-j.j x.m x.n x.words c.loop-j-test.true h.2 (le_refl (x.n * x.words)) in
    omega (arith, at.0, at.1, burst_small h.0 h.1)

pub bounds-received-j : goal.bounds-received-j
bounds-received-j c =
    let h = c.requires in
    let x = c.args in
    let at = within c.loop-j.j x.m x.n x.words c.loop-j-test.true h.2 h.3 in
    omega (arith, at.0, at.1)

pub loop-j-preserved : goal.loop-j-preserved
loop-j-preserved c = (search rules, held_more _ (omega arith) refl c.loop-j.invariant.1)

pub returns : goal.returns
returns c = held_end (omega arith) c.loop-j.invariant.1

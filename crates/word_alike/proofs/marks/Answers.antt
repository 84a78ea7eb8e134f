-- `word_alike::marks` meets its contract. The invariant: the marks below place j are made.
-- Assumes nothing.
use mathlib.Core.Path.{ap}
use Prim.Native.Nat.{ℕ, ◌+◌}
use native.Mathlib.Omega.{arith}
use lib.Bits.{bit_and}
use Rattle.spec_range.proofs.Loop.{held_none, held_more}
use Rattle.word_array.specs.Stored.{place}
use Rattle.word_table.proofs.Window.{held_table}
use Rattle.word_alike.specs.Signature.{mark_at}
use Rattle.std.proofs.lemmas.Nat.{and_le_l}
use Rattle.word_alike.proofs.marks.Goals as goal

pub loop-j-preserved : goal.loop-j-preserved
unfolding mark_at
loop-j-preserved c =
    let s = c.args in
    held_more _ (omega arith) (ap (λ (x : ℕ). bit_and x (place s.inside.now (s.at + c.loop-j.j))) c.mark-m.ensures) c.loop-j.invariant

pub loop-j-init : goal.loop-j-init
loop-j-init c = held_none 64 _

pub overflow_add-j-in-loop-j-3 : goal.overflow_add-j-in-loop-j-3
overflow_add-j-in-loop-j-3 c = omega (arith, and_le_l 12 c.args.n)

pub overflow_add-from-in-loop-j-3 : goal.overflow_add-from-in-loop-j-3
overflow_add-from-in-loop-j-3 c = omega (arith, and_le_l 12 c.args.n)

pub bounds-rows-from-in-loop-j-4 : goal.bounds-rows-from-in-loop-j-4
bounds-rows-from-in-loop-j-4 c = omega (arith, and_le_l 12 c.args.n)

pub overflow_add-j-in-loop-j-4 : goal.overflow_add-j-in-loop-j-4
overflow_add-j-in-loop-j-4 c = omega (arith, and_le_l 20 c.args.n)

pub overflow_add-from-in-loop-j-4 : goal.overflow_add-from-in-loop-j-4
overflow_add-from-in-loop-j-4 c = omega (arith, and_le_l 20 c.args.n)

pub bounds-rows-from-in-loop-j-5 : goal.bounds-rows-from-in-loop-j-5
bounds-rows-from-in-loop-j-5 c = omega (arith, and_le_l 20 c.args.n)

pub returns : goal.returns
returns c = held_table (omega arith) c.loop-j.invariant

-- `word_divide::add_row_at` meets its contract. The invariant: b blocks are added.
-- Assumes nothing.
use Prim.Native.Nat.{◌*◌}
use Rattle.word_divide.specs.Window.{AddedAt}
use Rattle.word_divide.proofs.add_row_at.Given as goal

abbrev pub invariant-loop-b : goal.invariant-loop-b
invariant-loop-b l = AddedAt l.t l.from l.i (64 * l.b) l.initial.v l.v

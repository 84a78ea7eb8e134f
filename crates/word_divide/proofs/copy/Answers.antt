-- `word_divide::copy` meets its contract. The invariant: the places below j are the word's.
-- Assumes nothing.
use mathlib.Core.Path.{◌≡◌, refl}
use native.Mathlib.Omega.{arith}
use Rattle.spec_range.proofs.Loop.{over_none, over_more}
use Rattle.word_table.proofs.Window.{over_window}
use Rattle.word_divide.proofs.copy.Goals as goal

pub loop-j-init : goal.loop-j-init
loop-j-init c = over_none _ _

pub loop-j-preserved : goal.loop-j-preserved
loop-j-preserved c = over_more _ (omega arith) refl c.loop-j.invariant

pub returns : goal.returns
returns c = let e : c.loop-j.j ≡ c.args.n = omega arith in over_window (rw e at c.loop-j.invariant)

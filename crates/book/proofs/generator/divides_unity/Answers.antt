-- `book::generator::divides_unity` meets its contract.
-- Assumes nothing.
use mathlib.Core.Path.{◌∙◌}
use Prim.Native.Nat.{ℕ}
use native.Mathlib.Omega.{arith}
use lib.ListN.{length-replicate}
use Rattle.word_divide.proofs.Dividing.{unity_test}
use Rattle.book.proofs.generator.divides_unity.Goals as goal

pub divide_unity-requires : goal.divide_unity-requires
divide_unity-requires g c =
    let h = c.requires in
    (h.0, h.1, h.2, h.3, omega (arith, h.4, length-replicate {A = ℕ} g.row.ROOM 0), omega (arith, h.6, length-replicate {A = ℕ} g.row.QUOTIENT 0))

pub is_zero-requires : goal.is_zero-requires
is_zero-requires g c =
    let h = c.requires in
    (omega (arith, h.0.n_high, h.2), omega (arith, h.2, h.4, length-replicate {A = ℕ} g.row.ROOM 0))

pub returns : goal.returns
returns g c = c.is_zero.ensures ∙ unity_test _ c.divide_unity.ensures.remains

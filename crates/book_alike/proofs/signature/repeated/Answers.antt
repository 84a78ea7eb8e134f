-- `book_alike::signature::repeated` meets its contract: by how often the number is found.
-- Assumes nothing.
use mathlib.Core.Path.{ap}
use mathlib.Core.Bool.{not}
use Prim.Native.Nat.{ℕ}
use lib.Dec.{eqb}
use Rattle.book_alike.proofs.signature.repeated.Goals as goal

pub returns : goal.returns
returns c = ap (λ (x : ℕ). not (eqb x 1)) c.times.ensures.0

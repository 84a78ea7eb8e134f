-- `decode::matrix_size` meets its contract.
-- Assumes nothing.
use mathlib.Core.Path.{ap, ◌∙◌}
use Prim.Native.Nat.{ℕ, ◌*◌, ◌^◌, ◌≤◌}
use native.Mathlib.Omega.{arith}
use borrow.Author.Rules.{scaled_Fits}
use lib.Pow.{pow_mono}
use Rattle.decode.proofs.matrix_size.Goals as goal

pub overflow_mul-result : goal.overflow_mul-result
overflow_mul-result c =
    let b : 2 ^ c.args.p ≤ 64 = pow_mono c.requires.0 in
    scaled_Fits c.from.result 65 c.args.n (omega (arith, c.order.ensures, c.from.ensures)) (omega (arith, c.requires.1))

pub returns : goal.returns
returns c = ap (λ (q : ℕ). q * c.args.n) (c.from.ensures ∙ c.order.ensures)

-- `stream_text::put_decimal` meets its contract: at most two digits, or three.
-- Assumes nothing.
use mathlib.Core.Path.{◌≡◌}
use mathlib.Core.List.{[], ◌∷◌}
use Prim.Native.Nat.{ℕ, ◌+◌, ◌/◌, ◌%◌, ◌≤◌}
use native.Mathlib.Omega.{arith}
use borrow.Author.Tests.{le-ltb}
use Rattle.spec_program.specs.Line.{decimal_of}
use Rattle.stream_text.proofs.Printing.{printed_then}
use Rattle.stream_text.proofs.put_decimal.Goals as goal

three-digits : (x : ℕ) → 100 ≤ x → decimal_of x ≡ (48 + x / 100) ∷ (48 + x / 10 % 10) ∷ (48 + x % 10) ∷ []
unfolding decimal_of
three-digits x h = simp (le-ltb x 10 (omega arith), le-ltb x 100 h)

pub returns : goal.returns
returns c = record {
  printed =
      rw (three-digits _ c.if-x-lt100.false) (printed_then (printed_then c.put-first.ensures c.put-second.ensures) c.put.ensures);
  upper_bound = omega (arith, c.put-first.ensures.past, c.put-second.ensures.past, c.put.ensures.past);
}

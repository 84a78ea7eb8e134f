-- `stream_text::put_small` meets its contract: one digit, or two.
-- Assumes nothing.
use mathlib.Core.Path.{◌≡◌}
use mathlib.Core.List.{[], ◌∷◌}
use Prim.Native.Nat.{ℕ, ◌+◌, ◌/◌, ◌%◌, ◌<◌, ◌≤◌}
use native.Mathlib.Omega.{arith}
use borrow.Author.Tests.{lt-ltb, le-ltb}
use Rattle.spec_program.specs.Line.{decimal_of}
use Rattle.stream_text.proofs.Printing.{printed_then}
use Rattle.stream_text.proofs.put_small.Goals as goal

one-digit : (x : ℕ) → x < 10 → decimal_of x ≡ (48 + x) ∷ []
unfolding decimal_of
one-digit x h = simp (lt-ltb x 10 h)

two_digits : (x : ℕ) → 10 ≤ x → x < 100 → decimal_of x ≡ (48 + x / 10) ∷ (48 + x % 10) ∷ []
unfolding decimal_of
two_digits x h l = simp (le-ltb x 10 h, lt-ltb x 100 l)

pub returns-then-x-lt10 : goal.returns-then-x-lt10
returns-then-x-lt10 c = record {
  printed = rw (one-digit _ c.if-x-lt10.true) c.put.ensures;
  upper_bound = omega arith;
}

pub returns : goal.returns
returns c = record {
  printed =
      rw (two_digits _ c.if-x-lt10.false (omega arith)) (printed_then c.put-next.ensures c.put-2.ensures);
  upper_bound = omega arith;
}

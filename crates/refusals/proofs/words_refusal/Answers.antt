-- `refusals::words_refusal` meets its contract.
-- Assumes nothing.
use mathlib.Core.Path.{sym}
use native.Mathlib.Nat.{mul-le-mul}
use native.Mathlib.Omega.{arith}
use Rattle.spec_range.proofs.Tests.{true_test}
use Rattle.spec_book.proofs.Inputs.{words_high}
use Rattle.refusals.proofs.words_refusal.Goals as goal

pub overflow_mul-size : goal.overflow_mul-size
overflow_mul-size c = omega (arith, mul-le-mul c.requires.0 (words_high _ (true_test _ (sym c.if-not-words_ok.ensures))))

pub overflow_mul-wanted : goal.overflow_mul-wanted
overflow_mul-wanted c = omega (arith, mul-le-mul c.requires.1 (words_high _ (true_test _ (sym c.if-not-words_ok.ensures))))

pub returns-then-not-words_ok : goal.returns-then-not-words_ok
returns-then-not-words_ok c = rw (sym c.if-not-words_ok.ensures)

pub returns : goal.returns
returns c = rw (sym c.if-not-words_ok.ensures) c.refusal.ensures

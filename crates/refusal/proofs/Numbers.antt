-- What an operation answers and leaves where a refusal was found, and where none was.
-- Assumes nothing.
use mathlib.Core.Path.{◌≡◌, refl}
use mathlib.Core.List.{List}
use Prim.Native.Nat.{ℕ, ◌<◌}
use native.Mathlib.Omega.{arith}
use Rattle.spec_field.specs.Answer.{answer, done, refused, or_else}
use Rattle.spec_field.proofs.Refusals.{found_first, found_next, answers_refused, answers_done}
use Rattle.refusal.specs.declared.Refusal.{Refusal}
use Rattle.refusal.specs.declared.Refusal.TheVariants.{BookLength, Kinds, Sizes, Bodies, Generator, Limits, DualWords, Alike, InputLength, OutputLength, InputSymbol, NoCodeWord, ZeroInverse, WordCount}
use Rattle.refusal.specs.Number.{number_of}

pub number_positive : (why : Refusal) → 0 < number_of why
number_positive BookLength = omega arith
number_positive Kinds = omega arith
number_positive Sizes = omega arith
number_positive Bodies = omega arith
number_positive Generator = omega arith
number_positive Limits = omega arith
number_positive DualWords = omega arith
number_positive Alike = omega arith
number_positive InputLength = omega arith
number_positive OutputLength = omega arith
number_positive InputSymbol = omega arith
number_positive NoCodeWord = omega arith
number_positive ZeroInverse = omega arith
number_positive WordCount = omega arith

pub number-not_zero : (why : Refusal) → number_of why ≡ 0 → ⊥
number-not_zero why e = omega (arith, number_positive why)

-- the number is the definition's k
pub refused_is : (why : Refusal) (k : ℕ) (values : List ℕ) → number_of why ≡ k → refused (number_of why) ≡ answer k values
refused_is why k values e = answers_refused _ k values e (number-not_zero why)

pub done_is : (k : ℕ) (values : List ℕ) → 0 ≡ k → done values ≡ answer k values
done_is k values e = answers_done 0 k values e refl

-- k is looked for first
pub first_is : (why : Refusal) (k next : ℕ) → number_of why ≡ k → number_of why ≡ or_else k next
first_is why k next e = found_first _ k next e (number-not_zero why)

pub next_is : (k next : ℕ) → 0 ≡ k → next ≡ or_else k next
next_is k next e = found_next 0 k next e refl

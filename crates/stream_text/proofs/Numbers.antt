-- The number of a refusal has at most two digits.
-- Assumes nothing.
use Prim.Native.Nat.{◌<◌}
use native.Mathlib.Omega.{arith}
use Rattle.refusal.specs.declared.Refusal.{Refusal}
use Rattle.refusal.specs.declared.Refusal.TheVariants.{BookLength, Kinds, Sizes, Bodies, Generator, Limits, DualWords, Alike, InputLength, OutputLength, InputSymbol, NoCodeWord, ZeroInverse, WordCount}
use Rattle.refusal.specs.Number.{number_of}

pub number_small : (why : Refusal) → number_of why < 100
number_small BookLength = omega arith
number_small Kinds = omega arith
number_small Sizes = omega arith
number_small Bodies = omega arith
number_small Generator = omega arith
number_small Limits = omega arith
number_small DualWords = omega arith
number_small Alike = omega arith
number_small InputLength = omega arith
number_small OutputLength = omega arith
number_small InputSymbol = omega arith
number_small NoCodeWord = omega arith
number_small ZeroInverse = omega arith
number_small WordCount = omega arith

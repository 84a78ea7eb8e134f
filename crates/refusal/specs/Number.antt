-- SCOPE 7: the numbers of the refusals, and what a result says of one.
-- Assumes nothing.
use Rattle.std.specs.Prelude.{◌≡◌, [], ℕ, Result, Ok, Err}
use Rattle.spec_field.specs.Answer.{Answer, done, refused}
use Rattle.refusal.specs.declared.Refusal.{Refusal}
use Rattle.refusal.specs.declared.Refusal.TheVariants.{BookLength, Kinds, Sizes, Bodies, Generator, Limits, DualWords, Alike, InputLength, OutputLength, InputSymbol, NoCodeWord, ZeroInverse, WordCount}

-- SCOPE 7.1 to 7.13, 7.19: the number of a refusal
abbrev pub number_of : Refusal → ℕ
number_of BookLength = 1
number_of Kinds = 2
number_of Sizes = 3
number_of Bodies = 4
number_of Generator = 5
number_of Limits = 6
number_of DualWords = 7
number_of Alike = 8
number_of InputLength = 9
number_of OutputLength = 10
number_of InputSymbol = 11
number_of NoCodeWord = 12
number_of ZeroInverse = 13
number_of WordCount = 14

-- what the conversion to a number gives
abbrev pub Numbers : Refusal → ℕ → Type 0
Numbers why number = number ≡ number_of why

-- the number of a result's refusal, or 0
abbrev pub refusal_of : {A : Type 0} → Result A Refusal → ℕ
refusal_of (Ok value) = 0
refusal_of (Err why) = number_of why

-- the answer of an operation that has no values
abbrev pub said : {A : Type 0} → Result A Refusal → Answer
said (Ok value) = done []
said (Err why) = refused (number_of why)

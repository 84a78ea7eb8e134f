-- SCOPE 4.1: What an operation answers besides its buffers: the number of a refusal, or its values.
-- Assumes nothing.
use Rattle.std.specs.Prelude.{ℕ, zero, suc, List}

-- SCOPE 4.1: an operation's answer; every enum that an operation answers is read as one
pub data Answer : Type 0 where
  -- SCOPE 5.3: refused, with the number
  refused : ℕ → Answer
  -- SCOPE 4.1: not refused: the values, in the order of the operation's definition
  done : List ℕ → Answer

-- SCOPE 7.14: the number found, or where it is 0 the next one looked for: the earlier refusal wins
abbrev pub or_else : ℕ → ℕ → ℕ
or_else zero next = next
or_else (suc number) next = suc number

-- SCOPE 4.1: the answer of an operation whose first refusal number is `number`, 0 where none applies
abbrev pub answer : ℕ → List ℕ → Answer
answer zero values = done values
answer (suc number) values = refused (suc number)

-- SCOPE 5.3: what a buffer that held `old` holds in the end: `new` where nothing is refused
abbrev pub left : ℕ → List ℕ → List ℕ → List ℕ
left zero new old = new
left (suc number) new old = old

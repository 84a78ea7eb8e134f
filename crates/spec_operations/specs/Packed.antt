-- SCOPE 4.2: The result of a C call: an answer as four bytes in a number.
-- Assumes nothing.
use Rattle.std.specs.Prelude.{◌≡◌, List, [], ◌∷◌, ℕ, ◌+◌, ◌*◌}
use Rattle.spec_field.specs.Answer.{Answer, answer, done, refused, left}

-- SCOPE 4.2: bytes in a number, the first lowest
abbrev pub bytes_of : List ℕ → ℕ
bytes_of [] = 0
bytes_of (v ∷ vs) = v + 256 * bytes_of vs

-- SCOPE 4.2: the result of a C call with this answer: the lowest byte is the refusal number, 0 where nothing was refused; the values follow, and a
-- refused call has none
abbrev pub result_of : Answer → ℕ
result_of (refused number) = number
result_of (done values) = 256 * bytes_of values

-- SCOPE 5.8: what a call over C returns and leaves, for all inputs: the result, and the buffer `out`, which held `old` and would be `new`
pub record Returns (number : ℕ) (values new old : List ℕ) (r : ℕ) (out : List ℕ) : Type 0 where
  pub returns : r ≡ result_of (answer number values)
  pub buffer : out ≡ left number new old

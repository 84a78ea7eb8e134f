-- SCOPE 5.8: What an operation that writes one buffer answers and leaves, for all inputs.
-- Assumes nothing.
use Rattle.std.specs.Prelude.{◌≡◌, List, [], ℕ}
use Rattle.spec_field.specs.Answer.{Answer, answer, left}

-- SCOPE 5.8: a call that writes one buffer, for all inputs: its answer a, and the buffer `out`, which held `old` and would be `new`
pub record Wrote (number : ℕ) (new old : List ℕ) (a : Answer) (out : List ℕ) : Type 0 where
  pub says : a ≡ answer number []
  pub buffer : out ≡ left number new old

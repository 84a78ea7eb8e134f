-- SCOPE 5.6, 5.7: Two calls, of which the second undoes the first.
-- Assumes nothing.
use Rattle.std.specs.Prelude.{◌≡◌, List, [], ℕ}
use Rattle.spec_field.specs.Answer.{Answer, done}

-- SCOPE 5.6, 5.7: neither call, with the answers a and a', is refused, and the second leaves what the first was given: a word, or a message written out
pub record GivenBack (a a' : Answer) (given back : List ℕ) : Type 0 where
  pub first_done : a ≡ done []
  pub second_done : a' ≡ done []
  pub given_back : back ≡ given

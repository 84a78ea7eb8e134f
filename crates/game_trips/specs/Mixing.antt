-- A word that is put in its places of a burst.
-- Assumes nothing.
use Rattle.std.specs.Prelude.{◌≡◌, List, ℕ, ◌+◌, ◌*◌, ◌<◌, length}
use Rattle.word_array.specs.Stored.{place}

-- the first n symbols of word m stand in their places of a burst of so many words, and the words before it stand as they did
pub record Put (n words m : ℕ) (word old out : List ℕ) : Type 0 where
  pub long : length out ≡ length old
  pub at : (j : ℕ) → j < n → place out (j * words + m) ≡ place word j
  pub before_it : (i j : ℕ) → i < m → place out (j * words + i) ≡ place old (j * words + i)

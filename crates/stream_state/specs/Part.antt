-- A part of the input that comes in pieces.
-- Assumes nothing.
use Rattle.std.specs.Prelude.{◌≡◌, List, ◌++◌, ℕ, ◌+◌, ◌≤◌, ◌<◌, length, take}

-- r is the smaller of a and b
pub record Least (a b r : ℕ) : Type 0 where
  pub left : r ≤ a
  pub right : r ≤ b
  pub reached : r < a → r ≡ b

-- k of the bytes joined a part, held in `part`, of which `have` bytes of `size` had come
pub record Joined (part₀ : List ℕ) (have : ℕ) (bytes part : List ℕ) (k : ℕ) : Type 0 where
  pub kept : length part ≡ length part₀
  pub within : k ≤ length bytes
  pub holds : take (have + k) part ≡ take have part₀ ++ take k bytes

-- they were as many as it lacked, or as there are
pub record Filled (part₀ : List ℕ) (have size : ℕ) (bytes part : List ℕ) (k : ℕ) : Type 0 where
  pub joined : Joined part₀ have bytes part k
  pub fits : have + k ≤ size
  pub all : have + k < size → k ≡ length bytes

-- The bytes of a result are the refusal number and the values: what a caller reads off it by shifts and masks.
-- Assumes nothing.
use mathlib.Core.Path.{◌≡◌, refl}
use Prim.Native.Nat.{ℕ, zero, suc, ◌/◌, ◌%◌, ◌<◌}
use mathlib.Core.List.{List, [], ◌∷◌}
use native.Mathlib.Omega.{arith}
use Rattle.spec_field.specs.Answer.{Answer, answer, done, refused}
use Rattle.spec_operations.specs.Packed.{result_of}
use Rattle.spec_operations.specs.Game.{game_letter, game_values}

-- byte 0, 1, 2 and 3 of an answer's result
pub record Bytes (a : Answer) (b₀ b₁ b₂ b₃ : ℕ) : Type 0 where
  pub number : result_of a % 256 ≡ b₀
  pub first : result_of a / 256 % 256 ≡ b₁
  pub second : result_of a / 65536 % 256 ≡ b₂
  pub third : result_of a / 16777216 % 256 ≡ b₃
  pub small : result_of a < 4294967296

-- a refusal has its number and no values
pub refused_bytes : (number : ℕ) → number < 256 → Bytes (refused number) number 0 0 0
refused_bytes number h = record { number = omega arith; first = omega arith; second = omega arith; third = omega arith; small = omega arith }

-- a number without values
pub number_result : (number : ℕ) → number ≡ result_of (answer number [])
number_result zero = refl
number_result (suc number) = refl

-- the lowest byte where nothing was refused
pub done_lowest : (values : List ℕ) → result_of (done values) % 256 ≡ 0
done_lowest values = omega arith

-- check: the count of dual words
pub checked_bytes : (count : ℕ) → count < 256 → Bytes (done (count ∷ [])) 0 count 0 0
checked_bytes count h = record { number = omega arith; first = omega arith; second = omega arith; third = omega arith; small = omega arith }

-- an operation that only writes
pub written_bytes : Bytes (done []) 0 0 0 0
written_bytes = record { number = omega arith; first = omega arith; second = omega arith; third = omega arith; small = omega arith }

-- decode: changed, rounds and the letter
pub decoded_bytes : (changed rounds letter : ℕ) → changed < 256 → rounds < 256 → letter < 256 → Bytes (done (changed ∷ rounds ∷ letter ∷ [])) 0 changed rounds letter
decoded_bytes changed rounds letter c r l =
    record { number = omega arith; first = omega arith; second = omega arith; third = omega arith; small = omega arith }

-- game: the count held, 0 and the letter
pub game_bytes : (held : ℕ) → held < 256 → Bytes (done (game_values held)) 0 held 0 (game_letter held)
game_bytes held h = decoded_bytes held 0 (game_letter held) h (omega arith) (letter-low held)
  where
    letter-low : (held : ℕ) → game_letter held < 256
    letter-low zero = omega arith
    letter-low (suc held) = omega arith

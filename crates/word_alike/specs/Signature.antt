-- The signature of a word.
-- Assumes nothing.
use Rattle.std.specs.Prelude.{Bool, ℕ, ◌+◌, ◌*◌, ◌%◌, eqb}
use Rattle.std.specs.Int.Bits.{bit_and, bit_xor}
use mir.Val.{bool_byte}
use Rattle.spec_range.specs.Fold.{total}

-- a number for the outcomes of five tests
unfoldable pub mark_of : Bool → Bool → Bool → Bool → Bool → ℕ
mark_of a b c d e =
    bit_xor (bit_xor (bit_xor (bit_xor (bool_byte a * 29) (bool_byte b * 71)) (bool_byte c * 167)) (bool_byte d * 202)) (bool_byte e * 86)

-- the mark of a word of n symbols at place j: whether the symbols at some places after it, none of them more than n on, are its own
unfoldable pub mark_at : ℕ → (ℕ → ℕ) → ℕ → ℕ
mark_at n w j =
    mark_of (eqb (w j) (w (j + bit_and 1 n))) (eqb (w j) (w (j + bit_and 3 n))) (eqb (w j) (w (j + bit_and 7 n)))
    (eqb (w j) (w (j + bit_and 12 n))) (eqb (w j) (w (j + bit_and 20 n)))

-- the sum of the squares of a word's marks, in 16 digits
unfoldable pub signature_of : ℕ → (ℕ → ℕ) → ℕ
signature_of n w = total n (λ j. mark_at n w j * mark_at n w j) % 65536

-- Hexadecimal digits of bytes, one more at a time.
-- Assumes nothing.
use mathlib.Core.Path.{◌≡◌, refl, ap}
use mathlib.Core.List.{List, [], ◌∷◌, ◌++◌}
use Prim.Native.Nat.{ℕ, ◌+◌, ◌/◌, ◌%◌, ◌<◌}
use native.Mathlib.Numerals.{add-one}
use lib.ListN.{length, take, get_or}
use lib.Seq.{take-suc}
use Rattle.spec_program.specs.Line.{glyph, hex_of}

-- the digits of two runs of bytes stand one after the other
pub hex_of-append : (xs ys : List ℕ) → hex_of (xs ++ ys) ≡ hex_of xs ++ hex_of ys
unfolding hex_of
hex_of-append [] ys = refl
hex_of-append (x ∷ xs) ys = ap (λ (l : List ℕ). glyph (x / 16) ∷ glyph (x % 16) ∷ l) (hex_of-append xs ys)

-- and one byte more is two digits more
pub hex_of_suc : (bytes : List ℕ) (i : ℕ) → i < length bytes
    → hex_of (take (i + 1) bytes) ≡ hex_of (take i bytes) ++ (glyph (get_or bytes i 0 / 16) ∷ glyph (get_or bytes i 0 % 16) ∷ [])
unfolding hex_of
hex_of_suc bytes i h = rw (add-one, take-suc bytes i 0 h) (hex_of-append (take i bytes) (get_or bytes i 0 ∷ []))

-- Words in whole blocks of 64 places, so that a short word takes one step of a loop and a long one a few.
-- Assumes nothing.
use Rattle.std.specs.Prelude.{cond, ℕ, ◌*◌, ltb}

-- how many blocks a word of n symbols, n at most 255, takes with a place to spare: 1, 2 or 4
unfoldable pub blocks : ℕ → ℕ
blocks n = cond (ltb n 64) 1 (cond (ltb n 128) 2 4)

-- its places in whole blocks
abbrev pub span : ℕ → ℕ
span n = 64 * blocks n

-- the places of a row of a table: room for the word twice over
abbrev pub stride : ℕ → ℕ
stride n = 128 * blocks n

-- the same as a power of 2
unfoldable pub shift : ℕ → ℕ
shift n = cond (ltb n 64) 7 (cond (ltb n 128) 8 9)

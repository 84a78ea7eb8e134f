-- What the probe answers and writes.
-- Assumes nothing.
use Rattle.std.specs.Prelude.{Bool, cond, ◌&&◌, List, ℕ, eqb, leb, length}
use Rattle.std.specs.Int.Bits.{bit_xor}
use Rattle.spec_range.specs.Table.{table}
use Rattle.word_array.specs.Stored.{place}

-- whether it adds: both words, and the room, have one length, which is 255 at most
unfoldable pub adds : ℕ → ℕ → ℕ → Bool
adds a b room = leb room 255 && (eqb a room && eqb b room)

-- what the room holds then
unfoldable pub sums : List ℕ → List ℕ → List ℕ → List ℕ
sums a b room = cond (adds (length a) (length b) (length room)) (table (length room) (λ j. bit_xor (place a j) (place b j))) room

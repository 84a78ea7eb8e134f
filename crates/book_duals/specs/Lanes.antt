-- Bytes that hold several symbols of p digits, a lane each: lists of bytes as lists of their symbols i.
-- Assumes nothing.
use Rattle.std.specs.Prelude.{cond, List, ℕ, ◌+◌, ◌-◌, ◌*◌, ◌/◌, ◌%◌, ◌^◌, eqb, length}
use Rattle.std.specs.Int.Bits.{bit_xor, bit_and}
use Rattle.spec_range.specs.Fold.{fold}
use Rattle.spec_range.specs.Table.{table}
use Rattle.spec_word.specs.Lanes.{lane}
use Rattle.word_array.specs.Stored.{place}
use Rattle.spec_book.specs.Layout.{width, dual_at, byte}

-- the symbols i of a list of bytes
unfoldable pub lanes : ℕ → ℕ → List ℕ → List ℕ
lanes p i t = table (length t) (λ k. lane p i (place t k))

-- at p = 2 and 3: the lowest digit of each symbol of a byte
unfoldable pub low_digits : ℕ → ℕ
low_digits p = cond (eqb p 2) 85 9

-- and all digits but the highest of each
unfoldable pub other_digits : ℕ → ℕ
other_digits p = cond (eqb p 2) 85 27

-- at p = 2 and 3: x times each symbol of a byte
unfoldable pub double_all : ℕ → ℕ → ℕ
double_all p x = bit_xor (bit_and x (other_digits p) + bit_and x (other_digits p)) (bit_and (x / 2 ^ (p - 1)) (low_digits p) * 3)

-- place m of the records of the k dual words from l on, packed: the first in the lowest digits
unfoldable pub packed_at : ℕ → List ℕ → ℕ → ℕ → ℕ → ℕ
packed_at p bytes l k m = fold bit_xor 0 k (λ i. byte bytes (dual_at (width bytes) (l + i) + m) * 2 ^ (p * i) % 256)

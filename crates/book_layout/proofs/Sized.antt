-- What s and p of a book's form tell of its words: what the functions on words ask, and that a record has room for a word in whole blocks.
-- Assumes nothing.
use mathlib.Core.Path.{◌≡◌}
use mathlib.Core.Bool.{false}
use mathlib.Core.List.{List}
use Prim.Native.Nat.{ℕ, ◌+◌, ◌*◌, ◌^◌, ◌≤◌, ◌<◌}
use native.Mathlib.Nat.{mul-le-mul}
use native.Mathlib.Omega.{arith}
use lib.Pow.{pow_mono}
use Rattle.sizes.specs.Blocks.{blocks, span}
use Rattle.sizes.proofs.Lengths.{blocks_high, blocks_one}
use Rattle.spec_book.specs.Layout.{is_long, width, symbol_digits, word_length}
use Rattle.spec_book.proofs.Accepting.{Form, short, long, form, width_high, Sizes}
use Rattle.word_array.specs.Stored as S

module _ (bytes : List ℕ) (h : Sizes bytes) where
  abbrev n : ℕ
  n = word_length bytes

  abbrev p : ℕ
  p = symbol_digits bytes

  pub short_block : is_long bytes ≡ false → blocks n ≡ 1
  short_block f = let l : n < 64 = omega (arith, h.short_n f) in blocks_one l

  -- a table of a word's multiples fits
  together : Form bytes → blocks n * 2 ^ p ≤ 64
  together (short f w) =
      let few : 2 ^ p ≤ 2 ^ 6 = pow_mono h.p_high in
      let one : blocks n ≤ 1 = omega (arith, short_block f) in
      omega (arith, mul-le-mul one few)
  together (long f w) =
      let few : 2 ^ p ≤ 2 ^ 4 = pow_mono (h.long_p f) in
      omega (arith, mul-le-mul (blocks_high n) few)

  pub word_sizes : S.Sizes p n
  word_sizes =
      record {
        p_low = h.p_low;
        p_high = h.p_high;
        n_low = omega (arith, h.n_low);
        n_high = omega (arith, h.n_high, width_high bytes);
        together = together (form bytes);
      }

  pub word_spanned : span n ≤ 1 + width bytes
  word_spanned = go (form bytes)
    where
      go : Form bytes → span n ≤ 1 + width bytes
      go (short f w) = omega (arith, w, short_block f)
      go (long f w) = omega (arith, w, blocks_high n)

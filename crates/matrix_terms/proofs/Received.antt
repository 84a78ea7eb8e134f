-- How many symbols there are, and that the received word is the word of its table of multiples.
-- Assumes nothing.
use mathlib.Core.Path.{◌≡◌, ap, ◌∙◌, fun_ext}
use mathlib.Core.List.{List}
use Prim.Native.Nat.{ℕ, ◌+◌, ◌*◌, ◌^◌, ◌≤◌}
use native.Mathlib.Nat.{zero-add}
use native.Mathlib.Omega.{arith}
use lib.Pow.{pow_mono}
use Rattle.sizes.specs.Blocks.{stride}
use Rattle.spec_word.specs.Word.{at}
use Rattle.word_array.specs.Stored.{place, Sizes}
use Rattle.word_table.specs.Multiples.{word_of, Tabled}

-- there are from 2 to 64 symbols
pub order_low : {p n : ℕ} → Sizes p n → 2 ≤ 2 ^ p
order_low s = pow_mono s.p_low

pub order_le : {p n : ℕ} → Sizes p n → 2 ^ p ≤ 64
order_le s = pow_mono s.p_high

-- a row for each has at most 8192 places in all
pub table_le : {p n : ℕ} → Sizes p n → stride n * 2 ^ p ≤ 8192
table_le s = omega (arith, s.together)

-- the word is read from its table
pub word_read : {stride p n : ℕ} (r : List ℕ) {t₀ t : List ℕ} → Tabled stride p n (λ j. place r (0 + j)) t₀ t → word_of stride n t ≡ at n r
unfolding at
word_read r h = fun_ext (λ j. h.word j ∙ ap (place r) (zero-add _))

-- The room that a table and a matrix take.
-- Assumes nothing.
use mathlib.Core.Path.{◌≡◌, refl, sym, ◌∙◌}
use mathlib.Core.Bool.{Bool, true, false, true≢false, cond}
use mathlib.Core.List.{List}
use Prim.Native.Nat.{ℕ, ◌*◌, ◌^◌, ◌≤◌, ◌<◌}
use native.Mathlib.Nat.{le_of_eq, le_trans, mul-le-mul, mul-le-mul_left, mul_assoc}
use native.Mathlib.Decide.{dec_lt}
use native.Mathlib.Omega.{arith}
use borrow.Author.Tests.{lt-ltb, le-ltb, ltb-true}
use lib.Dec.{T, leb→le}
use lib.Pow.{pow_mono}
use Rattle.spec_range.proofs.Tests.{and_left, and_right}
use Rattle.sizes.specs.Blocks.{blocks, stride}
use Rattle.sizes.proofs.Lengths.{blocks_high}
use Rattle.spec_book.specs.Layout.{is_long, size_exponent, symbol_digits, word_length}
use Rattle.spec_book.specs.Conditions.{sizes_ok, refusal}
use Rattle.spec_book.proofs.Accepting.{Form, short, long, form, width_high, Sizes}
use Rattle.book_layout.proofs.Sized.{short_block, word_sizes}
use Rattle.book.specs.Opened.{few_symbols, table_room, MatrixBound}

-- a row for each of 2 ^ most symbols
table_fits : {row size p : ℕ} (most : ℕ) → row ≤ size → p ≤ most → row * 2 ^ p ≤ size * 2 ^ most
table_fits most r h = mul-le-mul r (pow_mono h)

module _ (bytes : List ℕ) (h : Sizes bytes) where
  abbrev n : ℕ
  n = word_length bytes

  abbrev p : ℕ
  p = symbol_digits bytes

  -- the room that opening asks for holds the table
  pub room_fits : stride n * 2 ^ p ≤ table_room bytes
  unfolding table_room
  room_fits = go (form bytes) (dec_lt p 4)
    where
      go : Form bytes → Dec (p < 4) → stride n * 2 ^ p ≤ cond (few_symbols bytes) (cond (is_long bytes) 4096 1024) 8192
      go (short f w) (yes l) =
          rw (f, lt-ltb p 4 l) (le_trans (table_fits {row = stride n} {size = 128} 3 (omega (arith, short_block bytes h f)) (omega arith)) (omega arith))
      go (long f w) (yes l) =
          rw (f, lt-ltb p 4 l) (le_trans (table_fits {row = stride n} {size = 512} 3 (omega (arith, blocks_high n)) (omega arith)) (omega arith))
      go _ (no l) =
          rw (le-ltb p 4 (omega arith))
          (le_trans (le_of_eq (mul_assoc 128 (blocks n) (2 ^ p))) (le_trans (mul-le-mul_left 128 (word_sizes bytes h).together) (omega arith)))

  -- the largest matrix
  pub matrix_most : 2 ^ p * n ≤ 4080
  matrix_most = go (form bytes)
    where
      go : Form bytes → 2 ^ p * n ≤ 4080
      go (short f w) =
          let q : 2 ^ p ≤ 2 ^ 6 = pow_mono h.p_high in
          le_trans (mul-le-mul q (h.short_n f)) (omega arith)
      go (long f w) =
          let q : 2 ^ p ≤ 2 ^ 4 = pow_mono (h.long_p f) in
          let k : n ≤ 255 = omega (arith, h.n_high, width_high bytes) in
          le_trans (mul-le-mul q k) (omega arith)

-- ---- the rooms that there are

module _ (bytes : List ℕ) {size : ℕ} where
  pub few_room : few_symbols bytes ≡ true → is_long bytes ≡ false → 1024 ≡ size → table_room bytes ≤ size
  unfolding table_room
  few_room e f h = rw (e, f) (le_of_eq h)

  pub long_few_room : few_symbols bytes ≡ true → 4096 ≡ size → table_room bytes ≤ size
  unfolding table_room
  long_few_room e h = rw e (go (is_long bytes))
    where
      go : (b : Bool) → cond b 4096 1024 ≤ size
      go true = omega arith
      go false = omega arith

  pub any_room : 8192 ≡ size → table_room bytes ≤ size
  unfolding table_room
  any_room h = go (few_symbols bytes) (is_long bytes)
    where
      go : (a b : Bool) → cond a (cond b 4096 1024) 8192 ≤ size
      go true true = omega arith
      go true false = omega arith
      go false b = omega arith

-- the largest s and p of a form
pub exponent_most : (bytes : List ℕ) → T (sizes_ok bytes) → size_exponent bytes ≤ cond (is_long bytes) 8 6
unfolding sizes_ok
exponent_most bytes t = leb→le (size_exponent bytes) (cond (is_long bytes) 8 6) (search (and_left, and_right) depth 9)

pub digits_most : (bytes : List ℕ) → Sizes bytes → symbol_digits bytes ≤ cond (is_long bytes) 4 6
digits_most bytes h = go (form bytes)
  where
    go : Form bytes → symbol_digits bytes ≤ cond (is_long bytes) 4 6
    go (short f w) = rw f h.p_high
    go (long f w) = rw f (h.long_p f)

-- the size of a matrix by s and p that are not too large for the form
pub matrix_bounded : (bytes : List ℕ) → size_exponent bytes ≤ cond (is_long bytes) 8 6 → symbol_digits bytes ≤ cond (is_long bytes) 4 6
    → MatrixBound bytes (2 ^ symbol_digits bytes * word_length bytes)
matrix_bounded bytes s p = go (form bytes)
  where
    few : few_symbols bytes ≡ true → 2 ^ symbol_digits bytes ≤ 8
    few e =
        let low = ltb-true (symbol_digits bytes) 4 e in
        let high : symbol_digits bytes ≤ 3 = omega arith in
        let q : 2 ^ symbol_digits bytes ≤ 2 ^ 3 = pow_mono high in
        q

    fits : {rows columns : ℕ} → 2 ^ symbol_digits bytes ≤ rows → word_length bytes ≤ columns → rows * columns ≤ 4080 → columns ≤ 255
        → (is_long bytes ≡ false → columns ≤ 63) → MatrixBound bytes (2 ^ symbol_digits bytes * word_length bytes)
    fits q k most wide narrow =
        record {
          exact = λ _. refl;
          most = le_trans (mul-le-mul q k) most;
          few = λ e. let k : word_length bytes ≤ 255 = omega arith in le_trans (mul-le-mul (few e) k) (omega arith);
          few_short = λ e f. let k : word_length bytes ≤ 63 = omega (arith, narrow f) in le_trans (mul-le-mul (few e) k) (omega arith);
        }

    go : Form bytes → MatrixBound bytes (2 ^ symbol_digits bytes * word_length bytes)
    go (short f w) =
        let a : size_exponent bytes ≤ 6 = rw f at s in
        let b : symbol_digits bytes ≤ 6 = rw f at p in
        let n : 2 ^ size_exponent bytes ≤ 2 ^ 6 = pow_mono a in
        let q : 2 ^ symbol_digits bytes ≤ 2 ^ 6 = pow_mono b in
        fits {columns = 63} q (omega arith) (omega arith) (omega arith) (λ _. omega arith)
    go (long f w) =
        let a : size_exponent bytes ≤ 8 = rw f at s in
        let b : symbol_digits bytes ≤ 4 = rw f at p in
        let n : 2 ^ size_exponent bytes ≤ 2 ^ 8 = pow_mono a in
        let q : 2 ^ symbol_digits bytes ≤ 2 ^ 4 = pow_mono b in
        fits {columns = 255} q (omega arith) (omega arith) (omega arith) (λ g. absurd (true≢false (sym f ∙ g)))

-- bytes that are not accepted may have none
pub no_matrix : (bytes : List ℕ) → (refusal bytes ≡ 0 → ⊥) → MatrixBound bytes 0
no_matrix bytes h = record { exact = λ e. absurd (h e); most = omega arith; few = λ _. omega arith; few_short = λ _ _. omega arith }

-- The table of a packed word's multiples as it is built: the rows below c put, for the symbols i of each byte.
-- Assumes nothing.
use mathlib.Core.Path.{◌≡◌, sym, ap, ◌∙◌, subst}
use mathlib.Core.List.{List}
use Prim.Native.Nat.{ℕ, ◌+◌, ◌*◌, ◌/◌, ◌%◌, ◌^◌, ◌≤◌, ◌<◌}
use native.Mathlib.Nat.{mul_comm, zero-mod, div-eq_of_lt, div-le_self}
use native.Mathlib.Decide.{dec_lt}
use native.Mathlib.Omega.{arith}
use lib.Bits.{bit_xor}
use lib.ListN.{length}
use lib.Pow.{pow_pos, pow_mono}
use Rattle.spec_field.specs.Symbols.{product}
use Rattle.spec_field.proofs.Gf.{gf_laws}
use Rattle.spec_word.specs.Lanes.{lane}
use Rattle.spec_word.proofs.Lanes.{lane_zero, lane_xor, lane_lt}
use Rattle.word_array.specs.Stored.{place, Sizes}
use Rattle.word_table.specs.Multiples.{entry, Begun, RowPut, Tabled}
use Rattle.word_table.proofs.Rows.{Reading, ReadAs, Rows, rows_apart, rows_first, rows_double, rows_end}
use Rattle.book_duals.specs.Lanes.{lanes, double_all}
use Rattle.book_duals.proofs.Lanes.{lanes-length, lanes_at}
use Rattle.book_duals.proofs.ByteTests.{lane_double}

-- the rows below c are the multiples of d, symbol by symbol
pub record LaneRows (stride p c : ℕ) (d : ℕ → ℕ) (t : List ℕ) : Type 0 where
  pub rows : (i : ℕ) → i < 9 → Rows stride p c (lane p i) d t

reading : (stride p i : ℕ) (d : ℕ → ℕ) → Reading stride p (lane p i) d
reading stride p i d = record { zero = lane_zero p i; sum = lane_xor p i; symbol = λ j l. lane_lt p i (d j) }

as_lanes : (p i : ℕ) (l : List ℕ) → ReadAs (lane p i) l (lanes p i l)
as_lanes p i l = record { at = lanes_at p i l }

-- a byte with no digits but those of 8 / p symbols
no_more : (p x : ℕ) → x < 2 ^ (8 / p * p) → lane p (8 / p) x ≡ 0
unfolding lane
no_more p x l = ap (λ (y : ℕ). y % 2 ^ p) (div-eq_of_lt (subst (λ (k : ℕ). x < 2 ^ k) (mul_comm (8 / p) p) l)) ∙ zero-mod (2 ^ p)

-- 2 is below 2 ^ p only where p is 2 or more
two_digits : (p : ℕ) → 2 < 2 ^ p → 2 ≤ p
two_digits p h = go (dec_lt p 2)
  where
    go : Dec (p < 2) → 2 ≤ p
    go (yes l) = let low : 2 ^ p ≤ 2 ^ 1 = pow_mono {i = p} {j = 1} (omega arith) in absurd (omega (arith, low))
    go (no l) = omega arith

-- of the word whose places are f's, which row 1 has at first
module _ {stride p n span : ℕ} {f : ℕ → ℕ} {t₀ t₁ : List ℕ} (s : Sizes p n) (begins : Begun stride n span f t₀ t₁) where
  -- rows 0 and 1
  pub lanes-first : LaneRows stride p 2 (entry stride t₁ 1) t₁
  lanes-first = record { rows = λ i b. rows_first s begins (reading stride p i (entry stride t₁ 1)) }

  -- the two rows made from row c, which has no digits but those of 8 / p symbols either
  pub lanes_double : {c : ℕ} {t t' t'' : List ℕ} → p ≤ 3 → ((j : ℕ) → j + 1 < span → f j < 2 ^ (8 / p * p)) → 1 ≤ c
      → LaneRows stride p (2 * c) (entry stride t₁ 1) t → 2 * c < 2 ^ p → ((k : ℕ) → place t' k < 256)
      → RowPut stride (2 * c) (λ j. double_all p (entry stride t c j)) t t'
      → RowPut stride (2 * c + 1) (λ j. bit_xor (entry stride t' (2 * c) j) (entry stride t' 1 j)) t' t'' → LaneRows stride p (2 * (c + 1)) (entry stride t₁ 1) t''
  lanes_double {c} {t} {t'} high digits pos h l byte put₁ put₂ =
      record {
        rows = λ i b. rows_double s (reading stride p i (entry stride t₁ 1)) pos (h.rows i b) l put₁
            (λ j k. lane_double p (entry stride t c j) i (two_digits p (omega arith)) high (small j k) (stored j k) b)
            put₂;
      }
    where
      stored : (j : ℕ) → j < stride → lane p (8 / p) (entry stride t c j) ≡ 0
      stored j k =
          (h.rows (8 / p) (omega (arith, div-le_self 8 p))).rows c j (omega arith) k
          ∙ ap (product p c) (no_more p _ (begins.below (2 ^ (8 / p * p)) (pow_pos (8 / p * p)) digits j k)) ∙ (gf_laws p s.p_low s.p_high).mul_zero c

      small : (j : ℕ) → j < stride → entry stride t c j < 256
      small j k =
          let apart = rows_apart stride {b = c} {c = 2 * c} (omega arith) in
          subst (λ (x : ℕ). x < 256) (put₁.low (stride * c + j) (omega (arith, apart))) (byte (stride * c + j))

  -- all rows
  pub lanes_end : {c : ℕ} {t : List ℕ} → n + n ≤ stride → LaneRows stride p c (entry stride t₁ 1) t → 2 ^ p ≤ c → stride * 2 ^ p ≤ length t₀
      → length t ≡ length t₀ → (i : ℕ) → i < 9 → Tabled stride p n (λ j. lane p i (f j)) (lanes p i t₀) (lanes p i t)
  lanes_end {t = t} fits h l size long i b =
      rows_end s begins (reading stride p i (entry stride t₁ 1)) fits (h.rows i b) l (as_lanes p i t)
      (subst (λ (x : ℕ). stride * 2 ^ p ≤ x) (sym (lanes-length p i t₀)) size) (lanes-length p i t ∙ long ∙ sym (lanes-length p i t₀))

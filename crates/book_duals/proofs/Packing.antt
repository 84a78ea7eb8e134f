-- A byte of a packed word: symbol i is that of the dual word l + i, where i is below k.
-- Assumes nothing.
use mathlib.Core.Path.{◌≡◌, sym, ap, ap₂, ◌∙◌, subst}
use mathlib.Core.Bool.{Bool, cond}
use mathlib.Core.List.{List}
use Prim.Native.Nat.{ℕ, zero, suc, ◌+◌, ◌*◌, ◌/◌, ◌%◌, ◌^◌, ◌≤◌, ◌<◌, zero-le}
use native.Mathlib.Nat.{le_trans, le_refl, le_step, mul-suc, mul_comm, mul-le-mul_left, mul-div-le}
use native.Mathlib.Decide.{dec_lt}
use native.Mathlib.Omega.{arith}
use borrow.Author.Tests.{lt-ltb, le-ltb}
use lib.Bits.{bit_xor, xor_comm, xor_shifted}
use lib.Dec.{ltb}
use lib.ListN.{length, replicate, length-replicate}
use lib.Pow.{pow_mono, shl_exact}
use lib.Seq.{ext_get_or}
use Rattle.spec_range.specs.Fold.{fold}
use Rattle.spec_range.specs.Table.{table}
use Rattle.spec_range.proofs.Table.{table_at, table-length}
use Rattle.spec_range.proofs.Loop.{fold_none, fold_step, zero_at}
use Rattle.spec_word.specs.Lanes.{lane, packed, Narrow}
use Rattle.spec_word.proofs.Lanes.{lane_past, lane-packed, packed_none, packed_more, packed_lt}
use Rattle.word_array.specs.Stored.{place}
use Rattle.spec_book.specs.Layout.{width, dual_at, byte}
use Rattle.book_duals.specs.Lanes.{packed_at}

-- the digits of one symbol more than i of k
pub words_fit : (p : ℕ) {k i : ℕ} → k ≤ 8 / p → i < k → p * i + p ≤ 8
words_fit p {k} {i} h l = le_trans (subst (λ (x : ℕ). x ≤ p * (8 / p)) (mul-suc p i) (mul-le-mul_left p (le_trans l h))) (mul-div-le 8 p)

-- ---- the symbols of a sum of symbols, each shifted up to its own digits

module _ (p : ℕ) (f : ℕ → ℕ) where
  abbrev sum : ℕ → ℕ
  sum k = fold bit_xor 0 k (λ i. f i * 2 ^ (p * i) % 256)

  -- what is added
  term : {k : ℕ} → k < 8 / p → f k < 2 ^ p → f k * 2 ^ (p * k) % 256 ≡ f k * 2 ^ (p * k)
  term {k} l b = shl_exact p (p * k) 8 b (omega (arith, words_fit p (le_refl (8 / p)) l))

  -- so the sum packs the symbols
  sum-packed : (k : ℕ) → k ≤ 8 / p → Narrow p k f → sum k ≡ packed p k f
  unfolding fold
  sum-packed zero l b = sym (packed_none p f)
  sum-packed (suc k) l b =
      let less : Narrow p k f = λ i a. b i (le_step a) in
      ap₂ bit_xor (sum-packed k (omega arith) less) (term l (b k (le_refl (suc k))))
      ∙ xor_comm (packed p k f) (f k * 2 ^ (p * k)) ∙ xor_shifted (f k) (p * k) (packed p k f) (packed_lt p k f less) ∙ sym (packed_more p k f)

-- ---- a place of packed dual words

module _ (p : ℕ) (bytes : List ℕ) (l k m : ℕ) where
  abbrev symbols : ℕ → ℕ
  symbols i = byte bytes (dual_at (width bytes) (l + i) + m)

  module _ (few : k ≤ 8 / p) (symbol : Narrow p k symbols) where
    places-packed : packed_at p bytes l k m ≡ packed p k symbols
    unfolding packed_at
    places-packed = sum-packed p symbols k few symbol

    small : packed p k symbols < 2 ^ (p * k)
    small = packed_lt p k symbols symbol

    pub packed-small : packed_at p bytes l k m < 2 ^ (8 / p * p)
    packed-small =
        rw places-packed (le_trans small (pow_mono (subst (λ (x : ℕ). p * k ≤ x) (mul_comm p (8 / p)) (mul-le-mul_left p few))))

    pub packed-symbol : (i : ℕ) → lane p i (packed_at p bytes l k m) ≡ cond (ltb i k) (symbols i) 0
    packed-symbol i = ap (lane p i) places-packed ∙ go (dec_lt i k)
      where
        go : Dec (i < k) → lane p i (packed p k symbols) ≡ cond (ltb i k) (symbols i) 0
        go (yes a) = lane-packed p k symbols symbol i a ∙ sym (ap (λ (t : Bool). cond t (symbols i) 0) (lt-ltb i k a))
        go (no a) =
            lane_past p i (le_trans small (pow_mono (mul-le-mul_left p (omega arith)))) ∙ sym (ap (λ (t : Bool). cond t (symbols i) 0) (le-ltb i k (omega arith)))

-- ---- a block of them, as the loop has it after i of k dual words

pub record Packing (p : ℕ) (bytes : List ℕ) (l k at : ℕ) (out : List ℕ) (shift i : ℕ) : Type 0 where
  pub within : i ≤ k
  pub shift_is : shift ≡ p * i
  pub long : length out ≡ 64
  pub places : (j : ℕ) → j < 64 → place out j ≡ packed_at p bytes l i (at + j)

-- before the first word
pub packing_none : (p : ℕ) (bytes : List ℕ) (l k at : ℕ) → Packing p bytes l k at (replicate 64 0) 0 0
unfolding packed_at
packing_none p bytes l k at =
    record {
      within = zero-le;
      shift_is = omega arith;
      long = length-replicate {A = ℕ} 64 0;
      places = λ j d. zero_at 64 j ∙ sym (fold_none bit_xor 0 _);
    }

module _ {p : ℕ} {bytes : List ℕ} {l k at : ℕ} {out : List ℕ} {shift i : ℕ} (h : Packing p bytes l k at out shift i) where
  -- the next word fits
  pub packing_fits : k ≤ 8 / p → i < k → shift + p ≤ 8
  packing_fits few b = omega (arith, h.shift_is, words_fit p few b)

  -- a word more
  pub packing_more : {start : ℕ} {out' : List ℕ} → i < k → start ≡ dual_at (width bytes) (l + i) + at
      → out' ≡ table 64 (λ j. bit_xor (place out j) (place bytes (start + j) * 2 ^ shift % 256)) → Packing p bytes l k at out' (shift + p) (i + 1)
  unfolding packed_at
  packing_more b e w =
      record {
        within = omega arith;
        shift_is = omega (arith, h.shift_is, mul-suc p i);
        long = ap length w ∙ table-length 64 _;
        places = λ j d.
            ap (λ (v : List ℕ). place v j) w ∙ table_at 64 _ d
            ∙ fold_step bit_xor 0 i (λ i. byte bytes (dual_at (width bytes) (l + i) + (at + j)) * 2 ^ (p * i) % 256) (h.places j d)
            (ap₂ (λ (m x : ℕ). place bytes m * 2 ^ x % 256) (omega arith) h.shift_is);
      }

  -- after the last
  pub packing_end : k ≤ i → out ≡ table 64 (λ j. packed_at p bytes l k (at + j))
  packing_end b =
      ext_get_or 0 out _ (h.long ∙ sym (table-length 64 _)) (λ j d.
      let c : j < 64 = subst (λ (m : ℕ). j < m) h.long d in
      h.places j c ∙ ap (λ (i : ℕ). packed_at p bytes l i (at + j)) (omega (arith, h.within)) ∙ sym (table_at 64 _ c))

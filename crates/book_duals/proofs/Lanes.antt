-- The symbols of a byte: of lists of bytes, and times x.
-- Assumes nothing.
use mathlib.Core.Path.{◌≡◌, sym, ap, ◌∙◌}
use mathlib.Core.Bool.{Bool, true, false, cond}
use mathlib.Core.List.{List}
use Prim.Native.Nat.{ℕ, ◌+◌, ◌-◌, ◌*◌, ◌/◌, ◌^◌, ◌≤◌, ◌<◌}
use native.Mathlib.Nat.{mul-le-mul_left}
use native.Mathlib.Decide.{dec_lt}
use native.Mathlib.Omega.{arith}
use lib.Bits.{bit_xor, bit_and, and_le_r}
use lib.Dec.{eqb}
use lib.ListN.{length, get_or-eq_default}
use mir.Syntax.{w8}
use mir.Val.{Fits}
use Rattle.spec_range.proofs.Table.{table_at, table-length}
use Rattle.spec_word.specs.Lanes.{lane}
use Rattle.spec_word.proofs.Lanes.{lane_zero}
use Rattle.word_array.specs.Stored.{place}
use Rattle.book_duals.specs.Lanes.{lanes, low_digits, other_digits, double_all}

-- ---- lists

module _ (p i : ℕ) where
  -- a list of symbols is as long as that of the bytes
  pub lanes-length : (t : List ℕ) → length (lanes p i t) ≡ length t
  unfolding lanes
  lanes-length t = table-length (length t) _

  -- and is read place by place
  pub lanes_at : (t : List ℕ) (k : ℕ) → place (lanes p i t) k ≡ lane p i (place t k)
  unfolding lanes
  lanes_at t k = go (dec_lt k (length t))
    where
      go : Dec (k < length t) → place (lanes p i t) k ≡ lane p i (place t k)
      go (yes l) = table_at (length t) (λ k. lane p i (place t k)) l
      go (no l) =
          get_or-eq_default (lanes p i t) 0 (omega (arith, table-length (length t) (λ k. lane p i (place t k))))
          ∙ sym (ap (lane p i) (get_or-eq_default t 0 (omega arith)) ∙ lane_zero p i)

-- ---- x times all symbols of a byte, as the code has it

-- the digits but the highest fit a byte one place up
pub rest_fits : (p : ℕ) {others : ℕ} → others ≡ other_digits p → (x : ℕ) → Fits w8 (bit_and x others + bit_and x others)
unfolding other_digits
rest_fits p {others} e x = omega (arith, and_le_r x others, go (eqb p 2))
  where
    go : (b : Bool) → cond b 85 27 ≤ 85
    go true = omega arith
    go false = omega arith

-- the highest digits fit a byte three times over
pub top_fits : (p : ℕ) {ones : ℕ} → ones ≡ low_digits p → (x m : ℕ) → m ≤ 3 → Fits w8 (bit_and x ones * m)
unfolding low_digits
top_fits p {ones} e x m l = let b = mul-le-mul_left (bit_and x ones) l in omega (arith, b, and_le_r x ones, go (eqb p 2))
  where
    go : (b : Bool) → cond b 85 9 ≤ 85
    go true = omega arith
    go false = omega arith

-- the value that is written
pub double_value : (p : ℕ) {x y ones others : ℕ} → x ≡ y → ones ≡ low_digits p → others ≡ other_digits p
    → bit_xor (bit_and x others + bit_and x others) (bit_and (x / 2 ^ (p - 1)) ones * 3) ≡ double_all p y
unfolding double_all
double_value p e f g = rw (e, f, g)

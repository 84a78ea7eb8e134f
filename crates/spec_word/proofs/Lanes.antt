-- Lanes of any width: a packed number gives back what was packed; a number is the packing of its lanes; the sum of two packed numbers is the
-- packing of the sums.
-- Assumes nothing.
use mathlib.Core.Path.{◌≡◌, refl, sym, ap, ap₂, ◌∙◌, subst}
use mathlib.Core.Logic.{⊎_elim}
use Prim.Native.Nat.{ℕ, zero, suc, ◌+◌, ◌-◌, ◌*◌, ◌/◌, ◌%◌, ◌^◌, ◌<◌}
use native.Mathlib.Nat.{zero-mod, zero-div, div-eq_of_lt, mod-lt, mod-one, mod-eq_of_lt, not-suc-le-zero, add_comm, mul-suc, mul-zero, mul-le-mul_left, eq-or-lt_of_le, le_of_suc-le-suc, le_refl}
use native.Mathlib.Omega.{arith}
use lib.Arith.{digits_lt}
use lib.Bits.{bit_xor, xor_shr, xor_mod, xor_block, xor_lt}
use lib.Pow.{pow_pos, pow-add, high, low, field, mod-mod-pow, mod-pow-add}
use Rattle.spec_range.specs.Fold.{fold}
use Rattle.spec_word.specs.Lanes.{lane, packed, Narrow}

module _ (w i : ℕ) where
  -- of zero
  pub lane_zero : lane w i 0 ≡ 0
  unfolding lane
  lane_zero = ap (λ (x : ℕ). x % 2 ^ w) (zero-div (2 ^ (w * i))) ∙ zero-mod (2 ^ w)

  -- of a sum
  pub lane_xor : (x y : ℕ) → lane w i (bit_xor x y) ≡ bit_xor (lane w i x) (lane w i y)
  unfolding lane
  lane_xor x y = ap (λ (z : ℕ). z % 2 ^ w) (xor_shr x y (w * i)) ∙ xor_mod (x / 2 ^ (w * i)) (y / 2 ^ (w * i)) w

  -- it has w digits
  pub lane_lt : (x : ℕ) → lane w i x < 2 ^ w
  unfolding lane
  lane_lt x = mod-lt (x / 2 ^ (w * i)) (pow_pos w)

  -- above a number's digits it is zero
  pub lane_past : {x : ℕ} → x < 2 ^ (w * i) → lane w i x ≡ 0
  unfolding lane
  lane_past l = ap (λ (y : ℕ). y % 2 ^ w) (div-eq_of_lt l) ∙ zero-mod (2 ^ w)

  -- what stands above it does not matter
  lane_low : (k x : ℕ) → i < k → lane w i (x % 2 ^ (w * k)) ≡ lane w i x
  unfolding lane
  lane_low k x l =
      sym (field (x % 2 ^ (w * k)) w (w * i))
      ∙ ap (λ (m : ℕ). x % 2 ^ m % 2 ^ (w + w * i) / 2 ^ (w * i)) e
      ∙ ap (λ (y : ℕ). y / 2 ^ (w * i)) (mod-mod-pow x (w * k - (w + w * i)) (w + w * i))
      ∙ field x w (w * i)
    where
      e : w * k ≡ (w * k - (w + w * i)) + (w + w * i)
      e = omega (arith, mul-le-mul_left w l, mul-suc w i)

module _ (w : ℕ) where
  -- the place of the lane after k others
  next : (k : ℕ) → w * suc k ≡ w + w * k
  next k = mul-suc w k ∙ add_comm (w * k) w

  pub packed_none : (f : ℕ → ℕ) → packed w 0 f ≡ 0
  unfolding packed fold
  packed_none f = refl

  pub packed_more : (k : ℕ) (f : ℕ → ℕ) → packed w (suc k) f ≡ f k * 2 ^ (w * k) + packed w k f
  unfolding packed fold
  packed_more k f = add_comm (packed w k f) (f k * 2 ^ (w * k))

  -- one less is bounded too
  fewer : {k : ℕ} {f : ℕ → ℕ} → Narrow w (suc k) f → Narrow w k f
  fewer h i l = h i (omega arith)

  pub packed_lt : (k : ℕ) (f : ℕ → ℕ) → Narrow w k f → packed w k f < 2 ^ (w * k)
  packed_lt zero f h = rw (packed_none f, mul-zero w) (omega arith)
  packed_lt (suc k) f h =
      rw (packed_more k f, next k, pow-add 2 w (w * k)) (digits_lt (h k (le_refl (suc k))) (packed_lt k f (fewer h)))

  -- the lanes with one more above them
  lane-top : (k : ℕ) (f : ℕ → ℕ) → packed w k f < 2 ^ (w * k) → f k < 2 ^ w → lane w k (packed w (suc k) f) ≡ f k
  unfolding lane
  lane-top k f b l = ap (λ (x : ℕ). x % 2 ^ w) (ap (λ (x : ℕ). x / 2 ^ (w * k)) (packed_more k f) ∙ high (f k) (w * k) b) ∙ mod-eq_of_lt l

  lane_under : (k : ℕ) (f : ℕ → ℕ) → packed w k f < 2 ^ (w * k) → (i : ℕ) → i < k → lane w i (packed w (suc k) f) ≡ lane w i (packed w k f)
  lane_under k f b i l =
      sym (lane_low w i k (packed w (suc k) f) l) ∙ ap (lane w i) (ap (λ (x : ℕ). x % 2 ^ (w * k)) (packed_more k f) ∙ low (f k) (w * k) b)

  -- what was packed is read back
  pub lane-packed : (k : ℕ) (f : ℕ → ℕ) → Narrow w k f → (i : ℕ) → i < k → lane w i (packed w k f) ≡ f i
  lane-packed zero f h i l = absurd (not-suc-le-zero l)
  lane-packed (suc k) f h i l =
      let b = packed_lt k f (fewer h) in
      ⊎_elim
      (λ e. subst (λ (m : ℕ). lane w m (packed w (suc k) f) ≡ f m) (sym e) (lane-top k f b (h k (le_refl (suc k)))))
      (λ m. lane_under k f b i m ∙ lane-packed k f (fewer h) i m)
      (eq-or-lt_of_le (le_of_suc-le-suc l))

  -- the lanes of a number, packed, are its lowest digits
  packed-lanes : (k x : ℕ) → packed w k (λ i. lane w i x) ≡ x % 2 ^ (w * k)
  unfolding lane
  packed-lanes zero x = packed_none _ ∙ sym (ap (λ (e : ℕ). x % 2 ^ e) (mul-zero w) ∙ mod-one x)
  packed-lanes (suc k) x =
      packed_more k (λ i. lane w i x) ∙ ap (λ (y : ℕ). lane w k x * 2 ^ (w * k) + y) (packed-lanes k x)
      ∙ sym (ap (λ (e : ℕ). x % 2 ^ e) (next k) ∙ mod-pow-add x w (w * k))

  -- a number is the packing of its lanes
  pub packed_whole : (k : ℕ) {x : ℕ} → x < 2 ^ (w * k) → packed w k (λ i. lane w i x) ≡ x
  packed_whole k {x} l = packed-lanes k x ∙ mod-eq_of_lt l

  -- the sum of two packed numbers is the packing of the sums
  pub packed_xor : (k : ℕ) (f g : ℕ → ℕ) → Narrow w k f → Narrow w k g
      → bit_xor (packed w k f) (packed w k g) ≡ packed w k (λ i. bit_xor (f i) (g i))
  packed_xor zero f g hf hg = rw (packed_none f, packed_none g, packed_none (λ i. bit_xor (f i) (g i))) refl
  packed_xor (suc k) f g hf hg =
      ap₂ bit_xor (packed_more k f) (packed_more k g)
      ∙ xor_block (w * k) (f k) (g k) (packed w k f) (packed w k g) (packed_lt k f (fewer hf)) (packed_lt k g (fewer hg))
      ∙ ap (λ (y : ℕ). bit_xor (f k) (g k) * 2 ^ (w * k) + y) (packed_xor k f g (fewer hf) (fewer hg))
      ∙ sym (packed_more k (λ i. bit_xor (f i) (g i)))

  -- so each lane of the sum is the sum of what was packed there
  pub lane-sum : (k : ℕ) {f g : ℕ → ℕ} {x y : ℕ} → x ≡ packed w k f → Narrow w k f → y ≡ packed w k g → Narrow w k g → (i : ℕ) → i < k
      → lane w i (bit_xor x y) ≡ bit_xor (f i) (g i)
  lane-sum k {f} {g} d hf e hg i l =
      ap (lane w i) (ap₂ bit_xor d e ∙ packed_xor k f g hf hg) ∙ lane-packed k (λ i. bit_xor (f i) (g i)) (λ i l. xor_lt w (f i) (g i) (hf i l) (hg i l)) i l

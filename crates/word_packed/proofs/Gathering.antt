-- A number that a loop packs, and a lane as the code reads it.
-- Assumes nothing.
use mathlib.Core.Path.{◌≡◌, sym, ap, ap₂, ◌∙◌, subst}
use mathlib.Core.Logic.{⊎_elim}
use Prim.Native.Nat.{ℕ, suc, ◌+◌, ◌-◌, ◌*◌, ◌/◌, ◌%◌, ◌^◌, ◌≤◌, ◌<◌}
use native.Mathlib.Nat.{not-suc-le-zero, eq-or-lt_of_le, le_of_suc-le-suc}
use native.Mathlib.Numerals.{add-one}
use lib.Bits.{bit_or, bit_and, and_mask, or_shifted_r}
use lib.Pow.{shl_exact}
use Rattle.spec_word.specs.Lanes.{lane, packed, Narrow}
use Rattle.spec_word.proofs.Lanes.{packed_none, packed_more, packed_lt}

-- a lane is had by a shift and a mask
pub lane_masked : (w i x : ℕ) {below : ℕ} → below ≡ w * i → bit_and (x / 2 ^ below) (2 ^ w - 1) ≡ lane w i x
unfolding lane
lane_masked w i x {below} e = and_mask (x / 2 ^ below) w ∙ ap (λ (m : ℕ). x / 2 ^ m % 2 ^ w) e

-- of what is to be packed, k are in
pub record Gathered (w k : ℕ) (f : ℕ → ℕ) (x : ℕ) : Type 0 where
  pub narrow : Narrow w k f
  pub is : x ≡ packed w k f

pub gathered_none : (w : ℕ) (f : ℕ → ℕ) → Gathered w 0 f 0
gathered_none w f = record { narrow = λ i l. absurd (not-suc-le-zero l); is = sym (packed_none w f) }

-- one more, moved up to its lane in a machine number of d digits
pub gathered_more : {w k : ℕ} {f : ℕ → ℕ} {x v below : ℕ} (d : ℕ) → below ≡ w * k → v ≡ f k → v < 2 ^ w → w + w * k ≤ d → Gathered w k f x
    → Gathered w (k + 1) f (bit_or x (v * 2 ^ below % 2 ^ d))
gathered_more {w} {k} {f} {x} {v} d place e l fits h =
    rw (place, add-one k) (record { narrow = narrow; is = is })
  where
    narrow : Narrow w (suc k) f
    narrow i b = ⊎_elim (λ q. subst (λ (m : ℕ). m < 2 ^ w) (e ∙ ap f (sym q)) l) (h.narrow i) (eq-or-lt_of_le (le_of_suc-le-suc b))

    is : bit_or x (v * 2 ^ (w * k) % 2 ^ d) ≡ packed w (suc k) f
    is =
        ap₂ bit_or h.is (shl_exact w (w * k) d l fits ∙ ap (λ (y : ℕ). y * 2 ^ (w * k)) e)
        ∙ or_shifted_r (f k) (w * k) (packed w k f) (packed_lt w k f h.narrow) ∙ sym (packed_more w k f)

-- A room of powers and logarithms, filled in the order of the exponents: no place is written twice, since no two powers are equal, and none is left out.
-- Assumes nothing.
use mathlib.Core.Path.{◌≡◌, refl, sym, ap, ◌∙◌, subst}
use mathlib.Core.Logic.{◌⊎◌, ⊎_elim}
use mathlib.Core.List.{List}
use Prim.Native.Nat.{ℕ, ◌+◌, ◌-◌, ◌*◌, ◌^◌, ◌<◌, ◌≤◌}
use native.Mathlib.Nat.{eq-or-lt_of_le, le_of_suc-le-suc, not-suc-le-zero, lt_irrefl}
use native.Mathlib.Numerals.{add-one}
use native.Mathlib.Decide.{dec_lt}
use native.Mathlib.Omega.{arith}
use lib.ListN.{length, set, length-set}
use lib.Pow.{pow_mono}
use lib.Seq.{get_or-set_same, get_or-set_other}
use Rattle.spec_field.specs.Symbols.{times_x}
use Rattle.word_array.specs.Stored.{place}
use Rattle.field_powers.specs.Powers.{power, PowersPut, powers_end}
use Rattle.field_powers.proofs.Reached.{logarithm, logarithm_below, power_logarithm}
use Rattle.field_powers.proofs.Laws.{power_next, power_below, power_pos, power_one_to_one, power_round}

-- w has the powers below e in both rounds of r, and each exponent at the place of its power; s is the next power
pub record Logging (p r : ℕ) (w₀ w : List ℕ) (s e : ℕ) : Type 0 where
  pub within : e ≤ r
  pub symbol_is : s ≡ power p e
  pub long : length w ≡ length w₀
  pub zero_is : place w 0 ≡ 0
  pub first : (k : ℕ) → k < e → place w (64 + k) ≡ power p k
  pub second : (k : ℕ) → k < e → place w (64 + r + k) ≡ power p k
  pub at : (k : ℕ) → k < e → place w (power p k) ≡ k

-- no exponent is put yet
pub logging_none : (p r : ℕ) (w : List ℕ) → powers_end ≤ length w → Logging p r (set w 0 0) (set w 0 0) 1 0
unfolding power
logging_none p r w room =
    record {
      within = omega arith;
      symbol_is = refl;
      long = refl;
      zero_is = get_or-set_same w 0 0 0 (omega arith);
      first = λ k l. absurd (not-suc-le-zero l);
      second = λ k l. absurd (not-suc-le-zero l);
      at = λ k l. absurd (not-suc-le-zero l);
    }

-- a round has at most 63 powers
pub round_le : {p : ℕ} (r : ℕ) → p ≤ 6 → r + 1 ≡ 2 ^ p → r ≤ 63
round_le {p} r high whole = let h : 2 ^ p ≤ 64 = pow_mono high in omega arith

-- a power is a place below them
pub power_fits : {p : ℕ} → 1 ≤ p → p ≤ 6 → (e : ℕ) → power p e < 64
power_fits {p} low high e = let h : 2 ^ p ≤ 64 = pow_mono high in let l : power p e < 2 ^ p = power_below p low high e in omega arith

module _ {p r : ℕ} (low : 1 ≤ p) (high : p ≤ 6) (whole : r + 1 ≡ 2 ^ p) (w₀ : List ℕ) (room : powers_end ≤ length w₀) where
  -- one more exponent, put at the place of its power
  pub logging_more : {e s s' : ℕ} {w : List ℕ} → Logging p r (set w₀ 0 0) w s e → e < r → s' ≡ times_x p s
      → Logging p r (set w₀ 0 0) (set (set (set w (64 + e) s) (64 + r + e) s) s e) s' (e + 1)
  logging_more {e} {s} {w = w} h l next =
      record {
        within = omega arith;
        symbol_is = power_next p e next q;
        long = length-set w₂ s e ∙ length-set w₁ (64 + r + e) s ∙ length-set w (64 + e) s ∙ h.long;
        zero_is = kept 0 (omega arith) (omega arith) (omega (arith, h.symbol_is, power_pos p low high e)) ∙ h.zero_is;
        first = λ k b. ⊎_elim (first-here k) (λ b. kept (64 + k) (omega arith) (omega arith) (omega (arith, small)) ∙ h.first k b) (last k b);
        second = λ k b. ⊎_elim (second-here k) (λ b. kept (64 + r + k) (omega arith) (omega arith) (omega (arith, small)) ∙ h.second k b) (last k b);
        at = λ k b. ⊎_elim (here k) (there k) (last k b);
      }
    where
      q : s ≡ power p e
      q = h.symbol_is

      w₁ : List ℕ
      w₁ = set w (64 + e) s

      w₂ : List ℕ
      w₂ = set w₁ (64 + r + e) s

      small : s < 64
      small = omega (arith, q, power_fits low high e)

      last : (k : ℕ) → k < e + 1 → (k ≡ e) ⊎ (k < e)
      last k b = eq-or-lt_of_le (le_of_suc-le-suc (subst (λ (m : ℕ). k < m) (add-one e) b))

      -- a place that is not written
      kept : (k : ℕ) → (k ≡ 64 + e → ⊥) → (k ≡ 64 + r + e → ⊥) → (k ≡ s → ⊥) → place (set w₂ s e) k ≡ place w k
      kept k a b c = get_or-set_other w₂ s k e 0 c ∙ get_or-set_other w₁ (64 + r + e) k s 0 b ∙ get_or-set_other w (64 + e) k s 0 a

      first-here : (k : ℕ) → k ≡ e → place (set w₂ s e) (64 + k) ≡ power p k
      first-here k z =
          ap (λ (k : ℕ). place (set w₂ s e) (64 + k)) z
          ∙ get_or-set_other w₂ s (64 + e) e 0 (omega (arith, small)) ∙ get_or-set_other w₁ (64 + r + e) (64 + e) s 0 (omega arith)
          ∙ get_or-set_same w (64 + e) s 0 (omega (arith, h.long, length-set w₀ 0 0, round_le r high whole)) ∙ q ∙ ap (power p) (sym z)

      second-here : (k : ℕ) → k ≡ e → place (set w₂ s e) (64 + r + k) ≡ power p k
      second-here k z =
          ap (λ (k : ℕ). place (set w₂ s e) (64 + r + k)) z
          ∙ get_or-set_other w₂ s (64 + r + e) e 0 (omega (arith, small))
          ∙ get_or-set_same w₁ (64 + r + e) s 0 (omega (arith, length-set w (64 + e) s, h.long, length-set w₀ 0 0, round_le r high whole))
          ∙ q ∙ ap (power p) (sym z)

      here : (k : ℕ) → k ≡ e → place (set w₂ s e) (power p k) ≡ k
      here k z =
          ap (place (set w₂ s e)) (ap (power p) z ∙ sym q)
          ∙ get_or-set_same w₂ s e 0 (omega (arith, small, length-set w₁ (64 + r + e) s, length-set w (64 + e) s, h.long, length-set w₀ 0 0)) ∙ sym z

      there : (k : ℕ) → k < e → place (set w₂ s e) (power p k) ≡ k
      there k b =
          kept (power p k) (omega (arith, power_fits low high k)) (omega (arith, power_fits low high k))
          (λ z. lt_irrefl e (subst (λ (m : ℕ). m < e) (power_one_to_one p low high k e (omega arith) (omega arith) (z ∙ q)) b))
          ∙ h.at k b

  -- all exponents put: each nonzero symbol has its logarithm
  pub logging_end : {s e : ℕ} {w : List ℕ} → Logging p r (set w₀ 0 0) w s e → r ≤ e → PowersPut p w₀ w
  logging_end {w = w} h l =
      record {
        long = h.long ∙ length-set w₀ 0 0;
        zero_is = h.zero_is;
        powers = record {
          exp_at = λ k b. go k b (dec_lt k r);
          log_lt = λ c pos hc. subst (λ (x : ℕ). x + 1 < 2 ^ p) (sym (found c pos hc)) (before c);
          log_is = λ c pos hc. ap (power p) (found c pos hc) ∙ power_logarithm p c high pos hc;
        };
      }
    where
      go : (k : ℕ) → k + 2 < 2 * 2 ^ p → Dec (k < r) → place w (64 + k) ≡ power p k
      go k b (yes d) = h.first k (omega arith)
      go k b (no d) =
          let split : k ≡ k - r + (2 ^ p - 1) = omega arith in
          ap (place w) (omega arith) ∙ h.second (k - r) (omega arith) ∙ sym (ap (power p) split ∙ power_round p low high (k - r))

      before : (c : ℕ) → logarithm p c + 1 < 2 ^ p
      before c = let b : logarithm p c < 2 ^ p - 1 = logarithm_below p c low in omega arith

      found : (c : ℕ) → 0 < c → c < 2 ^ p → place w c ≡ logarithm p c
      found c pos hc =
          ap (place w) (sym (power_logarithm p c high pos hc))
          ∙ h.at (logarithm p c) (let b : logarithm p c + 1 < 2 ^ p = before c in omega arith)

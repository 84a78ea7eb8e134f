-- A search by halves for the end of a property of the numbers below `size`: it holds of those below its end, and of none from there on.
-- Assumes nothing.
use mathlib.Core.Logic.{◌⊎◌, inl, inr, ⊎_elim}
use Prim.Native.Nat.{ℕ, ◌+◌, ◌-◌, ◌≤◌, ◌<◌}
use native.Mathlib.Decide.{dec_le}
use native.Mathlib.Omega.{arith}

-- a number is at most another, or past it
pub le_or_lt : (a b : ℕ) → (a ≤ b) ⊎ (b < a)
le_or_lt a b = go (dec_le a b)
  where
    go : Dec (a ≤ b) → (a ≤ b) ⊎ (b < a)
    go (yes l) = inl l
    go (no l) = inr (omega arith)

-- the end of P is one of the w numbers from t on
pub record Sought (size : ℕ) (P : ℕ → Type 0) (t w : ℕ) : Type 0 where
  pub some : 1 ≤ w
  pub within : t + w ≤ size
  pub below : (x : ℕ) → x < t → P x
  pub above : (x : ℕ) → t + w ≤ x + 1 → x < size → P x → ⊥

module _ {size : ℕ} {P : ℕ → Type 0} {t w : ℕ} (s : Sought size P t w) where
  -- the end is t, where no other number is left
  pub sought_end : w ≤ 1 → (x : ℕ) → x < size → ((x < t) × P x) ⊎ ((t ≤ x) × (P x → ⊥))
  sought_end l x b = ⊎_elim (λ k. inr (k, s.above x (omega arith) b)) (λ k. inl (k, s.below x k)) (le_or_lt t x)

  module _ (falls : (x y : ℕ) → x ≤ y → P y → P x) (h : ℕ) (pos : 1 ≤ h) (half : h + h ≤ w) where
    -- P holds of the last of the first h numbers
    pub sought-after : P (t + h - 1) → Sought size P (t + h) (w - h)
    sought-after p =
        record {
          some = omega (arith, s.some);
          within = omega (arith, s.within);
          below = λ x l. falls x (t + h - 1) (omega arith) p;
          above = λ x l b. s.above x (omega arith) b;
        }

    -- and where it does not, the end is no later
    pub sought-before : (P (t + h - 1) → ⊥) → Sought size P t (w - h)
    sought-before f =
        record {
          some = omega (arith, s.some);
          within = omega (arith, s.within);
          below = s.below;
          above = λ x l b p. f (falls (t + h - 1) x (omega arith) p);
        }

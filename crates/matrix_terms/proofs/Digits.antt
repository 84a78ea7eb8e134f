-- A term's two parts: the logarithm of its symbol and its place.
-- Assumes nothing.
use mathlib.Core.Path.{◌≡◌, ap, ◌∙◌}
use mathlib.Core.List.{List}
use Prim.Native.Nat.{ℕ, ◌+◌, ◌*◌, ◌/◌, ◌%◌, ◌≤◌, ◌<◌}
use native.Mathlib.Nat.{mul_comm}
use native.Mathlib.Omega.{arith}
use lib.Arith.{digits_div, digits_mod}
use Rattle.word_array.specs.Stored.{place}
use Rattle.matrix_terms.specs.Terms.{Turns}

module _ {stride n : ℕ} {b : ℕ → ℕ} {logs : List ℕ} {weight : ℕ} {turns : ℕ → ℕ} (fits : n + n ≤ stride) (h : Turns stride n b logs weight turns) where
  digits : (i : ℕ) → i < weight → turns i ≡ place logs (b (h.places.place_at i)) * stride + h.places.place_at i
  digits i l = h.turn_at i l ∙ ap (λ (x : ℕ). x + h.places.place_at i) (mul_comm stride _)

  low : (i : ℕ) → i < weight → h.places.place_at i < stride
  low i l = omega (arith, h.places.place_lt i l)

  pub log_of : (i : ℕ) → i < weight → turns i / stride ≡ place logs (b (h.places.place_at i))
  log_of i l = ap (λ (x : ℕ). x / stride) (digits i l) ∙ digits_div (place logs (b (h.places.place_at i))) (low i l)

  pub place_of : (i : ℕ) → i < weight → turns i % stride ≡ h.places.place_at i
  place_of i l = ap (λ (x : ℕ). x % stride) (digits i l) ∙ digits_mod (place logs (b (h.places.place_at i))) (low i l)

-- The powers of x in GF(2^p), and the logarithms of its nonzero symbols.
-- Assumes nothing.
use Rattle.std.specs.Prelude.{◌≡◌, List, ℕ, zero, suc, ◌+◌, ◌*◌, ◌^◌, ◌<◌, length}
use Rattle.spec_field.specs.Symbols.{times_x}
use Rattle.word_array.specs.Stored.{place}

-- x to the power e
unfoldable pub power : ℕ → ℕ → ℕ
power p zero = 1
power p (suc e) = times_x p (power p e)

-- where the powers of x are in a room: behind the logarithms, one for each of up to 64 symbols
abbrev pub powers_at : ℕ
powers_at = 64

-- where they end
abbrev pub powers_end : ℕ
powers_end = 192

-- from `powersAt` on the room has the powers of x below 2 * (q - 1), and at the place of each nonzero symbol c the e below q - 1 with x ^ e = c
pub record PowersOf (p : ℕ) (room : List ℕ) : Type 0 where
  pub exp_at : (e : ℕ) → e + 2 < 2 * 2 ^ p → place room (powers_at + e) ≡ power p e
  pub log_lt : (c : ℕ) → 0 < c → c < 2 ^ p → place room c + 1 < 2 ^ p
  pub log_is : (c : ℕ) → 0 < c → c < 2 ^ p → power p (place room c) ≡ c

-- they were put into the room, which is as long as before
pub record PowersPut (p : ℕ) (room₀ room : List ℕ) : Type 0 where
  pub long : length room ≡ length room₀
  pub zero_is : place room 0 ≡ 0
  pub powers : PowersOf p room

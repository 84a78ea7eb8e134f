-- A fact of every symbol of every field, from one test that antt computes at each p up to 6 and each number below 2 ^ p.
-- Assumes nothing.
use mathlib.Core.Bool.{Bool}
use Prim.Native.Nat.{ℕ, ◌^◌, ◌<◌, ◌≤◌, suc-le-suc}
use lib.Dec.{T}
use Rattle.spec_range.specs.Fold.{all}
use Rattle.spec_range.proofs.Table.{all-at}

abbrev pub every_symbol : (ℕ → ℕ → Bool) → Bool
every_symbol test = all 7 (λ p. all (2 ^ p) (test p))

pub at_symbol : (test : ℕ → ℕ → Bool) → T (every_symbol test) → (p a : ℕ) → p ≤ 6 → a < 2 ^ p → T (test p a)
at_symbol test t p a hp ha = all-at (2 ^ p) (test p) (all-at 7 (λ n. all (2 ^ n) (test n)) t p (suc-le-suc hp)) a ha

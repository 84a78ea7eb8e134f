-- Facts of every byte and every p up to 3, from tests that antt computes.
-- Assumes nothing.
use mathlib.Core.Path.{◌≡◌}
use mathlib.Core.Bool.{Bool, true, cond}
use Prim.Native.Nat.{ℕ, ◌/◌, ◌≤◌, ◌<◌, suc-le-suc}
use borrow.Author.Tests.{eq-eqb, le-ltb}
use lib.Dec.{T, eqb, ltb, eqb→eq}
use Rattle.spec_range.specs.Fold.{fold, all}
use Rattle.spec_range.proofs.Tests.{eq→eqb, test_true}
use Rattle.spec_range.proofs.Table.{all-at, all_of}
use Rattle.spec_field.specs.Symbols.{polynomial, times_x}
use Rattle.spec_word.specs.Lanes.{lane}
use Rattle.book_duals.specs.Lanes.{low_digits, other_digits, double_all}

-- ---- x times all symbols of a byte that has no digits but theirs

double_test : ℕ → ℕ → ℕ → Bool
double_test p x i = cond (ltb p 2) true (cond (eqb (lane p (8 / p) x) 0) (eqb (lane p i (double_all p x)) (times_x p (lane p i x))) true)

every_double : T (all 4 (λ p. all 256 (λ x. all 9 (double_test p x))))
unfolding fold double_test lane double_all low_digits other_digits times_x polynomial
every_double = tt

-- each symbol is x times what it was
pub lane_double : (p x i : ℕ) → 2 ≤ p → p ≤ 3 → x < 256 → lane p (8 / p) x ≡ 0 → i < 9 → lane p i (double_all p x) ≡ times_x p (lane p i x)
unfolding double_test
lane_double p x i low hp hx z hi =
    eqb→eq _ _
    (rw (le-ltb p 2 low, eq-eqb (lane p (8 / p) x) 0 z) at
    (all-at 9 (double_test p x)
    (all-at 256 (λ x. all 9 (double_test p x))
    (all-at 4 (λ p. all 256 (λ x. all 9 (double_test p x))) every_double p (suc-le-suc hp)) x hx) i hi))

-- ---- a byte is zero where all its symbols are

zero_test : ℕ → ℕ → Bool
zero_test p x = cond (ltb p 1) true (cond (all 9 (λ i. eqb (lane p i x) 0)) (eqb x 0) true)

every_zero : T (all 4 (λ p. all 256 (zero_test p)))
unfolding fold zero_test lane
every_zero = tt

-- nine symbols cover a byte at every p
pub byte_zero : (p x : ℕ) → 1 ≤ p → p ≤ 3 → x < 256 → ((i : ℕ) → i < 9 → lane p i x ≡ 0) → x ≡ 0
unfolding zero_test
byte_zero p x low hp hx z =
    eqb→eq x 0
    (rw (le-ltb p 1 low, test_true (all 9 (λ i. eqb (lane p i x) 0)) (all_of 9 (λ i. eqb (lane p i x) 0) (λ i l. eq→eqb (z i l)))) at
    (all-at 256 (zero_test p) (all-at 4 (λ p. all 256 (zero_test p)) every_zero p (suc-le-suc hp)) x hx))

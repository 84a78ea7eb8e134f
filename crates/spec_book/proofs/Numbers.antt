-- How large a refusal's number is.
-- Assumes nothing.
use mathlib.Core.Bool.{Bool, true, false}
use mathlib.Core.List.{List}
use Prim.Native.Nat.{ℕ, ◌≤◌}
use native.Mathlib.Omega.{arith}
use Rattle.spec_book.specs.Layout.{field_of, book_of}
use Rattle.spec_book.specs.Conditions.{unless, length_ok, kinds_ok, sizes_ok, symbols_ok, generator_ok, limits_ok, duals_ok, distinct_ok, book_refusal, refusal}
use Rattle.spec_book.specs.Conditions.{input_refusal, input_ok}

unless_le : (ok : Bool) {number rest most : ℕ} → number ≤ most → rest ≤ most → unless ok number rest ≤ most
unless_le true h r = r
unless_le false h r = h

-- 9 to 11
pub input_number : (q : ℕ) (fits exact : Bool) (input : List ℕ) → input_refusal q fits exact input ≤ 11
unfolding input_refusal
input_number q fits exact input =
    unless_le fits (omega arith) (unless_le exact (omega arith) (unless_le (input_ok q input) (omega arith) (omega arith)))

-- 1 to 8
pub book_number : (bytes : List ℕ) → refusal bytes ≤ 8
unfolding refusal book_refusal
book_number bytes =
    let F = field_of bytes in
    let B = book_of bytes in
    unless_le (length_ok bytes) (omega arith)
    (unless_le (kinds_ok bytes) (omega arith)
    (unless_le (sizes_ok bytes) (omega arith)
    (unless_le (symbols_ok bytes) (omega arith)
    (unless_le (generator_ok F B) (omega arith)
    (unless_le (limits_ok F B) (omega arith) (unless_le (duals_ok F B) (omega arith) (unless_le (distinct_ok F B) (omega arith) (omega arith))))))))

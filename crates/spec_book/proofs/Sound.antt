-- What a refusal number of 0 tells: every test was passed.
-- Assumes nothing.
use mathlib.Core.Path.{◌≡◌}
use mathlib.Core.Bool.{Bool, true, false}
use mathlib.Core.List.{List}
use Prim.Native.Nat.{ℕ, suc}
use native.Mathlib.Omega.{arith}
use lib.Dec.{T}
use Rattle.spec_book.specs.Layout.{field_of, book_of}
use Rattle.spec_book.specs.Conditions.{length_ok, kinds_ok, sizes_ok, symbols_ok, generator_ok, limits_ok, duals_ok, distinct_ok, unless, book_refusal, refusal}

pub record Sound (bytes : List ℕ) : Type 0 where
  pub length_ok : T (length_ok bytes)
  pub kinds_ok : T (kinds_ok bytes)
  pub sizes_ok : T (sizes_ok bytes)
  pub symbols_ok : T (symbols_ok bytes)
  pub generator_ok : T (generator_ok (field_of bytes) (book_of bytes))
  pub limits_ok : T (limits_ok (field_of bytes) (book_of bytes))
  pub duals_ok : T (duals_ok (field_of bytes) (book_of bytes))
  pub distinct_ok : T (distinct_ok (field_of bytes) (book_of bytes))

-- no refusal: the test is passed, and none after it fails
pub passed : (ok : Bool) (number rest : ℕ) → unless ok (suc number) rest ≡ 0 → T ok × (rest ≡ 0)
passed true number rest e = (tt, e)
passed false number rest e = absurd (omega arith)

pub sound : (bytes : List ℕ) → refusal bytes ≡ 0 → Sound bytes
unfolding refusal book_refusal
sound bytes e =
    let e₁ = passed (length_ok bytes) 0 _ e in
    let e₂ = passed (kinds_ok bytes) 1 _ e₁.1 in
    let e₃ = passed (sizes_ok bytes) 2 _ e₂.1 in
    let e₄ = passed (symbols_ok bytes) 3 _ e₃.1 in
    let e₅ = passed (generator_ok (field_of bytes) (book_of bytes)) 4 _ e₄.1 in
    let e₆ = passed (limits_ok (field_of bytes) (book_of bytes)) 5 _ e₅.1 in
    let e₇ = passed (duals_ok (field_of bytes) (book_of bytes)) 6 _ e₆.1 in
    let e₈ = passed (distinct_ok (field_of bytes) (book_of bytes)) 7 _ e₇.1 in
    record {
      length_ok = e₁.0;
      kinds_ok = e₂.0;
      sizes_ok = e₃.0;
      symbols_ok = e₄.0;
      generator_ok = e₅.0;
      limits_ok = e₆.0;
      duals_ok = e₇.0;
      distinct_ok = e₈.0;
    }

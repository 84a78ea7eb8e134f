-- What the tests of the bytes tell.
-- Assumes nothing.
use mathlib.Core.Path.{◌≡◌, refl, sym, subst}
use mathlib.Core.Bool.{Bool, true, false, cond, ◌&&◌}
use mathlib.Core.List.{List}
use Prim.Native.Nat.{ℕ, ◌+◌, ◌-◌, ◌%◌, ◌≤◌, ◌<◌}
use native.Mathlib.Nat.{zero-div}
use native.Mathlib.Omega.{arith}
use lib.Dec.{T, eqb, leb, leb→le, eqb→eq}
use lib.ListN.{length}
use Rattle.spec_range.specs.Fold.{all}
use Rattle.spec_range.proofs.Tests.{and_left, and_right, test_true, eq→eqb}
use Rattle.spec_range.proofs.Table.{all-at}
use Rattle.spec_field.specs.Answer.{or_else}
use Rattle.spec_book.specs.Layout.{generator_at, limits_at, dual_at, byte, is_long, width, duals_in, field_of, book_of, Whole}
use Rattle.spec_book.specs.Conditions.{length_fits, length_ok, kinds_ok, sizes_ok, symbols_ok, unless, book_refusal, refusal}
use Rattle.spec_book.proofs.Sound as book
use Rattle.spec_book.proofs.Sound.{sound}
use Rattle.spec_book.proofs.Accepting.{dual_apart, chosen_length, own_length, whole}
use Rattle.book_records.specs.Records.{records_refusal, Readable, Body}

-- ---- condition 1

-- no record fits behind fewer bytes than stand before the first
pub none_fits : (w size : ℕ) → size < 7 + w → length_fits w size ≡ false
unfolding length_fits
none_fits w size l =
    let less : size - (7 + w) ≡ 0 = omega arith in
    rw (less, zero-div (1 + w)) refl

-- the generator's kind is there
pub four_bytes : (bytes : List ℕ) → T (length_ok bytes) → 4 ≤ length bytes
unfolding length_ok
four_bytes bytes t = leb→le 4 (length bytes) (and_left (leb 4 (length bytes)) _ t)

-- ---- condition 2

-- the test with the form's kinds, where records have that many bytes
pub kinds_tested : (bytes : List ℕ) {generator dual size : ℕ} {long : Bool} → long ≡ is_long bytes → generator ≡ cond long 5 2 → dual ≡ cond long 6 4
    → size ≡ 1 + width bytes
    → kinds_ok bytes ≡ (eqb (byte bytes 0) 1 && eqb (byte bytes generator_at) generator && eqb (byte bytes (generator_at + size)) 3
    && all (duals_in bytes) (λ l. eqb (byte bytes (dual_at (width bytes) l)) dual))
unfolding kinds_ok
kinds_tested bytes e f g s =
    let at : limits_at (width bytes) ≡ generator_at + (1 + width bytes) = omega arith in
    rw (f, g, e, s, at) refl

-- the length is one of the book's own form once the generator's kind is known
pub whole_chosen : (bytes : List ℕ) {long : Bool} → T (length_ok bytes) → long ≡ is_long bytes → byte bytes generator_at ≡ cond long 5 2 → Whole bytes
whole_chosen bytes t e k = whole bytes (chosen_length bytes t (eq→eqb (rw e at k)))

-- where a dual word's record ends, the next may start
pub dual_room : {bytes : List ℕ} {l : ℕ} → Whole bytes → l < duals_in bytes → dual_at (width bytes) l + (1 + width bytes) ≤ length bytes
dual_room {bytes} h d = omega (arith, h.size, dual_apart (width bytes) d)

-- kinds are small numbers
module _ {bytes : List ℕ} (h : Whole bytes) (t : T (kinds_ok bytes)) where
  small : (a b : ℕ) → a < 255 → b < 255 → (f : Bool) → cond f a b < 255
  small a b la lb true = la
  small a b la lb false = lb

  kind : (start a b : ℕ) → a < 255 → b < 255 → T (eqb (byte bytes start) (cond (is_long bytes) a b)) → byte bytes start < 255
  kind start a b la lb e = subst (λ (x : ℕ). x < 255) (sym (eqb→eq _ _ e)) (small a b la lb (is_long bytes))

  pub generator_body : Body bytes generator_at
  unfolding kinds_ok
  generator_body =
      record {
        room = omega (arith, h.size);
        kind = kind generator_at 5 2 (omega arith) (omega arith) (search (and_left, and_right) depth 5);
      }

  pub dual_body : {l : ℕ} → l < duals_in bytes → Body bytes (dual_at (width bytes) l)
  unfolding kinds_ok
  dual_body {l} d =
      record {
        room = dual_room h d;
        kind =
            kind (dual_at (width bytes) l) 6 4 (omega arith) (omega arith)
            (all-at (duals_in bytes) (λ l. eqb (byte bytes (dual_at (width bytes) l)) (cond (is_long bytes) 6 4)) (search (and_left, and_right) depth 5) l d);
      }

-- ---- condition 3

-- the test with the form's bounds of s
pub sizes_tested : (bytes : List ℕ) {low high : ℕ} {long : Bool} → long ≡ is_long bytes → low ≡ cond long 7 2 → high ≡ cond long 8 6
    → sizes_ok bytes ≡ (leb low (byte bytes 1) && leb (byte bytes 1) high && leb 1 (byte bytes 2) && leb (byte bytes 2) 6 && eqb (byte bytes 1 % byte bytes 2) 0)
unfolding sizes_ok
sizes_tested bytes e f g = rw (f, g, e) refl

-- ---- all

pub readable : (bytes : List ℕ) → refusal bytes ≡ 0 → Readable bytes
readable bytes e =
    let s = sound bytes e in
    record {
      lengths = s.length_ok;
      whole = whole bytes (own_length bytes s.length_ok s.kinds_ok);
      kinds = s.kinds_ok;
      sizes = s.sizes_ok;
      symbols = s.symbols_ok;
    }

-- the number is 0 just where bytes are readable
pub readable_number : (bytes : List ℕ) → Readable bytes → records_refusal bytes ≡ 0
unfolding records_refusal
readable_number bytes r =
    rw (
      test_true (length_ok bytes) r.lengths,
      test_true (kinds_ok bytes) r.kinds,
      test_true (sizes_ok bytes) r.sizes,
      test_true (symbols_ok bytes) r.symbols,
    )

pub readable_records : (bytes : List ℕ) → records_refusal bytes ≡ 0 → Readable bytes
unfolding records_refusal
readable_records bytes e =
    let e₁ = book.passed (length_ok bytes) 0 _ e in
    let e₂ = book.passed (kinds_ok bytes) 1 _ e₁.1 in
    let e₃ = book.passed (sizes_ok bytes) 2 _ e₂.1 in
    let e₄ = book.passed (symbols_ok bytes) 3 0 e₃.1 in
    record { lengths = e₁.0; whole = whole bytes (own_length bytes e₁.0 e₂.0); kinds = e₂.0; sizes = e₃.0; symbols = e₄.0 }

-- the numbers 1 to 4 come first
pub records_first : (bytes : List ℕ) → refusal bytes ≡ or_else (records_refusal bytes) (book_refusal (field_of bytes) (book_of bytes))
unfolding refusal records_refusal
records_first bytes = go (length_ok bytes) (kinds_ok bytes) (sizes_ok bytes) (symbols_ok bytes) _
  where
    go : (a b c d : Bool) (rest : ℕ)
        → unless a 1 (unless b 2 (unless c 3 (unless d 4 rest))) ≡ or_else (unless a 1 (unless b 2 (unless c 3 (unless d 4 0)))) rest
    go false b c d rest = refl
    go true false c d rest = refl
    go true true false d rest = refl
    go true true true false rest = refl
    go true true true true rest = refl

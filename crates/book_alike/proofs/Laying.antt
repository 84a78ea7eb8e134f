-- Dual words laid twice over, each in a row of its own, and their signatures.
-- Assumes nothing.
use mathlib.Core.Path.{◌≡◌, refl, sym, ap, ◌∙◌, subst}
use mathlib.Core.Logic.{◌⊎◌, inl, inr}
use mathlib.Core.List.{List}
use Prim.Native.Nat.{ℕ, ◌+◌, ◌-◌, ◌*◌, ◌/◌, ◌^◌, ◌≤◌, ◌<◌, min}
use native.Mathlib.Nat.{not-suc-le-zero, eq-or-lt_of_le, mul-le-mul_left}
use native.Mathlib.Decide.{dec_lt}
use native.Mathlib.Omega.{arith}
use lib.ListN.{replicate, length-replicate}
use Rattle.sizes.specs.Blocks.{blocks, stride, shift}
use Rattle.sizes.proofs.Lengths.{Length, one, two, four, length_of}
use Rattle.word_array.specs.Stored.{place}
use Rattle.word_table.specs.Multiples.{Laid}
use Rattle.word_table.specs.Window.{Window}
use Rattle.word_table.proofs.Rows.{rows_apart}
use Rattle.spec_book.specs.Layout.{width, dual_at}
use Rattle.book_duals.specs.Duals.{dual_word}
use Rattle.word_alike.specs.Signature.{signature_of}
use Rattle.book_alike.specs.Signed.{Bodies, Rows, Signed}
use Rattle.book_alike.proofs.Words.{body_word}
use Rattle.word_alike.proofs.Signing.{signature_same}

-- fewer dual words
pub bodies_part : {bytes : List ℕ} {n m duals : ℕ} → m ≤ duals → Bodies bytes n duals → Bodies bytes n m
bodies_part {bytes} l h =
    record {
      n_low = h.n_low;
      n_high = h.n_high;
      most = omega (arith, h.most);
      room = omega (arith, h.room, mul-le-mul_left (1 + width bytes) l);
      spanned = h.spanned;
    }

-- a row has at most 2 ^ 9 places
pub shift_high : (n : ℕ) → shift n ≤ 9
shift_high n = go (length_of n)
  where
    go : Length n → shift n ≤ 9
    go (one a b f) = omega (arith, f)
    go (two a _ b f) = omega (arith, f)
    go (four a b f) = omega (arith, f)

-- so that 1024 places have room for one
pub rows_some : (n : ℕ) {s : ℕ} → s ≡ shift n → 0 < 1024 / 2 ^ s
rows_some n {s} e = go (length_of n)
  where
    some : {x : ℕ} → shift n ≡ x → 0 < 1024 / 2 ^ x → 0 < 1024 / 2 ^ s
    some f = subst (λ (x : ℕ). 0 < 1024 / 2 ^ x) (sym (e ∙ f))

    go : Length n → 0 < 1024 / 2 ^ s
    go (one a b f) = some f (omega arith)
    go (two a _ b f) = some f (omega arith)
    go (four a b f) = some f (omega arith)

-- as many rows as there is room for, or as are left
pub rows_taken : (n : ℕ) {s k : ℕ} (left : ℕ) → s ≡ shift n → k ≡ min (1024 / 2 ^ s) left → (k ≤ left) × (stride n * k ≤ 1024)
rows_taken n {k = k} left e h = go (length_of n)
  where
    few : (most : ℕ) → k ≡ min most left → stride n * most ≤ 1024 → (k ≤ left) × (stride n * k ≤ 1024)
    few most h fits =
        let l : k ≤ most = omega arith in
        (omega arith, omega (arith, mul-le-mul_left (stride n) l))

    taken : {x : ℕ} → shift n ≡ x → k ≡ min (1024 / 2 ^ x) left
    taken f = h ∙ ap (λ (s : ℕ). min (1024 / 2 ^ s) left) (e ∙ f)

    go : Length n → (k ≤ left) × (stride n * k ≤ 1024)
    go (one a b f) = few 8 (taken f) (omega (arith, b))
    go (two a _ b f) = few 4 (taken f) (omega (arith, b))
    go (four a b f) = few 2 (taken f) (omega (arith, b))

-- row i of k
pub row_within : (n : ℕ) {b i k size : ℕ} → b ≡ blocks n → i < k → stride n * k ≤ size → 128 * b * i + 128 * b ≤ size
row_within n {i = i} {size = size} e l h = subst (λ (b : ℕ). 128 * b * i + 128 * b ≤ size) (sym e) (omega (arith, rows_apart (stride n) l))

module _ (stride : ℕ) (bytes : List ℕ) (n l : ℕ) where
  pub rows_none : (rows : List ℕ) → Rows stride bytes n l 0 rows rows
  rows_none rows = record { long = refl; twice = λ i j b c. absurd (not-suc-le-zero b) }

  -- one row more
  pub rows_more : {i start span : ℕ} {rows₀ rows₁ rows : List ℕ} → n + n ≤ stride → start ≡ dual_at (width bytes) (l + i)
      → Rows stride bytes n l i rows₀ rows₁ → Laid n span (λ j. place bytes (start + 1 + j)) (stride * i) rows₁ rows
      → Rows stride bytes n l (i + 1) rows₀ rows
  rows_more {i} {start} {span} {rows₀} {rows₁} {rows} fits e before now =
      record { long = now.long ∙ before.long; twice = λ k j b c. go k j c (eq-or-lt_of_le (omega arith)) }
    where
      go : (k j : ℕ) → j < n + n → (k ≡ i) ⊎ (k < i) → place rows (stride * k + j) ≡ dual_word n bytes (l + k) j
      go k j c (inl p) =
          subst (λ (k : ℕ). place rows (stride * k + j) ≡ dual_word n bytes (l + k) j) (sym p)
          (now.twice j c ∙ ap (λ (f : ℕ → ℕ). f j) (body_word bytes (l + i) e n))
      go k j c (inr b) = now.low (stride * k + j) (omega (arith, rows_apart stride b)) ∙ before.twice k j b c

-- the signatures of the words laid out join those before them
module _ (bytes : List ℕ) (n : ℕ) where
  pub signed_none : Signed bytes n 0 (replicate 32 0)
  signed_none = record { long = length-replicate {A = ℕ} 32 0; signed = λ l b. absurd (not-suc-le-zero b) }

  pub signed_more : {stride l k m : ℕ} {rows₀ rows s₀ s : List ℕ} → m ≡ l + k → Signed bytes n l s₀ → Rows stride bytes n l k rows₀ rows
      → Window l k (λ i. signature_of n (λ j. place rows (stride * i + j))) s₀ s → Signed bytes n m s
  signed_more {l = l} {k} {m} {rows₀} {rows} {s₀} {s} e before laid now =
      record { long = now.long ∙ before.long; signed = λ i b. go i (omega arith) (dec_lt i l) }
    where
      go : (m : ℕ) → m < l + k → Dec (m < l) → place s m ≡ signature_of n (dual_word n bytes m)
      go m b (yes c) = now.low m c ∙ before.signed m c
      go m b (no c) =
          let e : l + (m - l) ≡ m = omega arith in
          ap (place s) (sym e) ∙ now.at (m - l) (omega arith) ∙ signature_same n _ _ (λ j d. laid.twice (m - l) j (omega arith) d)
          ∙ ap (λ (m : ℕ). signature_of n (dual_word n bytes m)) e

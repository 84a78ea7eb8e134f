-- Bytes that pass the conditions 1 to 8 are a book that coding and decoding can rest on, with nothing else assumed.
-- Assumes nothing.
use mathlib.Core.Path.{◌≡◌, refl, sym, ap, ◌∙◌, subst}
use mathlib.Core.Bool.{Bool, true, false, true≢false, not, cond, ◌&&◌, ◌||◌}
use mathlib.Core.List.{List}
use Prim.Native.Nat.{ℕ, ◌+◌, ◌-◌, ◌%◌, ◌^◌, ◌≤◌, ◌<◌}
use native.Mathlib.Nat.{mul-suc, mul-le-mul_left, mod-lt, mod-eq_of_lt, add-mod_right, le_trans, le_of_eq, not-le_of_lt}
use native.Mathlib.Decide.{dec_lt, ℕ_discrete}
use native.Mathlib.Omega.{arith}
use borrow.Author.Tests.{ne_eqb}
use lib.Dec.{T, eqb, leb, ltb, eqb→eq, leb→le, ltb→lt}
use lib.ListN.{length, get_or-eq_default}
use lib.Pow.{pow_pos, pow_mono}
use Rattle.spec_range.proofs.Tests.{and_left, and_right, or_not_left}
use Rattle.spec_range.specs.Table.{table}
use Rattle.spec_range.proofs.Table.{table-length, table_at, all-at}
use Rattle.spec_range.proofs.Count.{le_largest, largest_lt}
use Rattle.spec_field.specs.Field.{FieldOps}
use Rattle.spec_word.specs.Word.{nonzero, weight, product}
use Rattle.spec_word.specs.Division.{coefficients}
use Rattle.spec_word.specs.CyclicCode.{Generator}
use Rattle.spec_book.specs.Book.{Book, Usable}
use Rattle.spec_book.specs.Layout.{generator_at, dual_at, byte, is_long, width, duals_in, body_place, size_exponent, symbol_digits, word_length, field_of, degree_of, book_of, Whole}
use Rattle.spec_book.specs.Conditions.{length_fits, length_ok, kinds_ok, sizes_ok, place_ok, body_ok, symbols_ok, generator_ok, dual_ok, duals_ok, refusal}
use Rattle.spec_book.proofs.Sound.{Sound, sound}

-- ---- the two forms
pub data Form (bytes : List ℕ) : Type 0 where
  short : is_long bytes ≡ false → width bytes ≡ 63 → Form bytes
  long : is_long bytes ≡ true → width bytes ≡ 255 → Form bytes

pub form : (bytes : List ℕ) → Form bytes
unfolding width
form bytes = go (is_long bytes) refl
  where
    go : (b : Bool) → is_long bytes ≡ b → Form bytes
    go true e = long e (ap (λ (b : Bool). cond b 255 63) e)
    go false e = short e (ap (λ (b : Bool). cond b 255 63) e)

pub width_low : (bytes : List ℕ) → 63 ≤ width bytes
width_low bytes = go (form bytes)
  where
    go : Form bytes → 63 ≤ width bytes
    go (short f w) = omega (arith, w)
    go (long f w) = omega (arith, w)

pub width_high : (bytes : List ℕ) → width bytes ≤ 255
width_high bytes = go (form bytes)
  where
    go : Form bytes → width bytes ≤ 255
    go (short f w) = omega (arith, w)
    go (long f w) = omega (arith, w)

-- a dual word's record ends where a later one starts, or before
pub dual_apart : (w : ℕ) {l m : ℕ} → l < m → dual_at w l + (1 + w) ≤ dual_at w m
dual_apart w {l} {m} b = omega (arith, mul-le-mul_left (1 + w) b, mul-suc (1 + w) l)

-- ---- the length

-- the length is one of the form that byte 3 chooses
pub chosen_length : (bytes : List ℕ) → T (length_ok bytes) → T (eqb (byte bytes generator_at) (cond (is_long bytes) 5 2))
    → T (length_fits (width bytes) (length bytes))
unfolding length_ok
chosen_length bytes t kind = go (form bytes)
  where
    long-fits : Bool
    long-fits = length_fits 255 (length bytes)

    short-fits : Bool
    short-fits = length_fits 63 (length bytes)

    -- what byte 3 chooses
    chosen : T (cond (is_long bytes) long-fits (short-fits || not (eqb (byte bytes generator_at) 2) && long-fits))
    chosen = and_right (leb 4 (length bytes)) _ t

    either : (a b c : Bool) → T b → T (a || not b && c) → T a
    either true b c k h = tt
    either false true c k h = h
    either false false c k h = absurd k

    go : Form bytes → T (length_fits (width bytes) (length bytes))
    go (short f w) =
        let here : T (short-fits || not (eqb (byte bytes generator_at) 2) && long-fits) =
        subst (λ (b : Bool). T (cond b long-fits (short-fits || not (eqb (byte bytes generator_at) 2) && long-fits))) f chosen in
        let two : T (eqb (byte bytes generator_at) 2) = subst (λ (b : Bool). T (eqb (byte bytes generator_at) (cond b 5 2))) f kind in
        subst (λ (w : ℕ). T (length_fits w (length bytes))) (sym w) (either short-fits (eqb (byte bytes generator_at) 2) long-fits two here)
    go (long f w) =
        subst (λ (w : ℕ). T (length_fits w (length bytes))) (sym w)
        (subst (λ (b : Bool). T (cond b long-fits (short-fits || not (eqb (byte bytes generator_at) 2) && long-fits))) f chosen)

pub own_length : (bytes : List ℕ) → T (length_ok bytes) → T (kinds_ok bytes) → T (length_fits (width bytes) (length bytes))
unfolding kinds_ok
own_length bytes t k = chosen_length bytes t (let t = k in search (and_left, and_right) depth 5)

pub whole : (bytes : List ℕ) → T (length_fits (width bytes) (length bytes)) → Whole bytes
unfolding length_fits
whole bytes t =
    record {
      count_low = leb→le 1 (duals_in bytes) (search (and_left, and_right) depth 5);
      count_high = leb→le (duals_in bytes) 32 (search (and_left, and_right) depth 5);
      size = eqb→eq (length bytes) (dual_at (width bytes) (duals_in bytes)) (search (and_left, and_right) depth 5);
    }

-- ---- s and p

pub record Sizes (bytes : List ℕ) : Type 0 where
  pub s_low : 2 ≤ size_exponent bytes
  pub s_high : size_exponent bytes ≤ 8
  -- p divides s
  pub divides : size_exponent bytes % symbol_digits bytes ≡ 0
  pub p_low : 1 ≤ symbol_digits bytes
  pub p_high : symbol_digits bytes ≤ 6
  pub n_low : 3 ≤ word_length bytes
  pub n_high : word_length bytes ≤ width bytes
  -- a word of the long form has more than 63 places and at most 16 symbols, and not 8
  pub short_n : is_long bytes ≡ false → word_length bytes ≤ 63
  pub long_n : is_long bytes ≡ true → 127 ≤ word_length bytes
  pub long_p : is_long bytes ≡ true → symbol_digits bytes ≤ 4
  pub long_few : is_long bytes ≡ true → symbol_digits bytes ≤ 3 → symbol_digits bytes ≤ 2

pub sizes : (bytes : List ℕ) → T (sizes_ok bytes) → Sizes bytes
unfolding sizes_ok
sizes bytes t =
    let s_low = leb→le (cond (is_long bytes) 7 2) (size_exponent bytes) (search (and_left, and_right) depth 9) in
    let s_high = leb→le (size_exponent bytes) (cond (is_long bytes) 8 6) (search (and_left, and_right) depth 9) in
    let p_high : symbol_digits bytes ≤ 6 = leb→le (symbol_digits bytes) 6 (search (and_left, and_right) depth 9) in
    let divides : size_exponent bytes % symbol_digits bytes ≡ 0 = eqb→eq _ 0 (search (and_left, and_right) depth 9) in
    by_form (leb→le 1 (symbol_digits bytes) (search (and_left, and_right) depth 9)) p_high divides s_low s_high (form bytes)
  where
    -- 7 and 8 are no multiples of 5 and 6
    few : 7 ≤ size_exponent bytes → size_exponent bytes ≤ 8 → symbol_digits bytes ≤ 6 → size_exponent bytes % symbol_digits bytes ≡ 0
        → Dec (symbol_digits bytes < 5) → symbol_digits bytes ≤ 4
    few low high most e (yes l) = omega arith
    few low high most e (no h) =
        let s = size_exponent bytes in
        let p = symbol_digits bytes in
        let less : s - p < p = omega arith in
        let rest : s % p ≡ s - p = ap (λ (x : ℕ). x % p) (omega arith) ∙ add-mod_right (s - p) p ∙ mod-eq_of_lt less in
        let none : s - p ≡ 0 = sym rest ∙ e in
        omega (arith, none)

    -- nor of 3
    fewer : 7 ≤ size_exponent bytes → size_exponent bytes ≤ 8 → size_exponent bytes % symbol_digits bytes ≡ 0 → symbol_digits bytes ≤ 3
        → Dec (symbol_digits bytes ≡ 3) → symbol_digits bytes ≤ 2
    fewer low high e most (yes q) =
        let none : size_exponent bytes % 3 ≡ 0 = subst (λ (p : ℕ). size_exponent bytes % p ≡ 0) q e in
        omega (arith, none)
    fewer low high e most (no q) = omega arith

    by_form : 1 ≤ symbol_digits bytes → symbol_digits bytes ≤ 6 → size_exponent bytes % symbol_digits bytes ≡ 0
        → cond (is_long bytes) 7 2 ≤ size_exponent bytes → size_exponent bytes ≤ cond (is_long bytes) 8 6 → Form bytes → Sizes bytes
    by_form low most e s_low s_high (short f w) =
        let a : 2 ≤ size_exponent bytes = subst (λ (b : Bool). cond b 7 2 ≤ size_exponent bytes) f s_low in
        let b : size_exponent bytes ≤ 6 = subst (λ (b : Bool). size_exponent bytes ≤ cond b 8 6) f s_high in
        let l : 2 ^ 2 ≤ 2 ^ size_exponent bytes = pow_mono a in
        let h : 2 ^ size_exponent bytes ≤ 2 ^ 6 = pow_mono b in
        record {
          s_low = a;
          s_high = omega arith;
          divides = e;
          p_low = low;
          p_high = most;
          n_low = omega arith;
          n_high = omega (arith, w);
          short_n = λ _. omega arith;
          long_n = λ g. absurd (true≢false (sym g ∙ f));
          long_p = λ g. absurd (true≢false (sym g ∙ f));
          long_few = λ g. absurd (true≢false (sym g ∙ f));
        }
    by_form low most e s_low s_high (long f w) =
        let a : 7 ≤ size_exponent bytes = subst (λ (b : Bool). cond b 7 2 ≤ size_exponent bytes) f s_low in
        let b : size_exponent bytes ≤ 8 = subst (λ (b : Bool). size_exponent bytes ≤ cond b 8 6) f s_high in
        let l : 2 ^ 7 ≤ 2 ^ size_exponent bytes = pow_mono a in
        let h : 2 ^ size_exponent bytes ≤ 2 ^ 8 = pow_mono b in
        record {
          s_low = omega arith;
          s_high = b;
          divides = e;
          p_low = low;
          p_high = most;
          n_low = omega arith;
          n_high = omega (arith, w);
          short_n = λ g. absurd (true≢false (sym f ∙ g));
          long_n = λ _. omega arith;
          long_p = λ _. few a b most e (dec_lt (symbol_digits bytes) 5);
          long_few = λ _ h. fewer a b e h (ℕ_discrete (symbol_digits bytes) 3);
        }

-- ---- the degree

pub degree_lt : (n : ℕ) (g : ℕ → ℕ) → 0 < n → degree_of n g < n
unfolding degree_of
degree_lt n g pos = largest_lt n n (λ i. cond (nonzero (g i)) i 0) pos (λ i l. below (nonzero (g i)) l)
  where
    below : (b : Bool) {i : ℕ} → i < n → cond b i 0 < n
    below true l = l
    below false l = pos

-- above it every coefficient is 0
pub degree_above : (n : ℕ) (g : ℕ → ℕ) (i : ℕ) → i < n → degree_of n g < i → g i ≡ 0
unfolding degree_of
degree_above n g i l h = go (ℕ_discrete (g i) 0)
  where
    go : Dec (g i ≡ 0) → g i ≡ 0
    go (yes e) = e
    go (no ne) =
        let top : i ≤ degree_of n g =
        subst (λ (x : ℕ). x ≤ degree_of n g) (ap (λ (b : Bool). cond (not b) i 0) (ne_eqb (g i) 0 ne)) (le_largest n (λ i. cond (nonzero (g i)) i 0) l) in
        absurd (not-le_of_lt h top)

-- ---- a body

module _ (bytes : List ℕ) (start : ℕ) (t : T (body_ok bytes start)) where
  at_place : (j : ℕ) → j < width bytes → T (place_ok (field_of bytes).q (word_length bytes) j (body_place bytes start j))
  unfolding body_ok
  at_place j l = all-at (width bytes) (λ j. place_ok (field_of bytes).q (word_length bytes) j (body_place bytes start j)) t j l

  -- its places are symbols
  pub body_symbol : (j : ℕ) → j < width bytes → body_place bytes start j < (field_of bytes).q
  body_symbol j l = ltb→lt (body_place bytes start j) (field_of bytes).q (let t = at_place j l in search (and_left, and_right))

  -- and 0 from place n on
  pub body_zero : (j : ℕ) → j < width bytes → word_length bytes ≤ j → body_place bytes start j ≡ 0
  body_zero j l h =
      let t = at_place j l in
      eqb→eq (body_place bytes start j) 0
      (or_not_left (ltb j (word_length bytes)) (eqb (body_place bytes start j) 0) (λ c. not-le_of_lt (ltb→lt j (word_length bytes) c) h)
      (search (and_left, and_right)))

-- ---- the book

module _ (bytes : List ℕ) (h : Sound bytes) where
  abbrev F : FieldOps
  F = field_of bytes

  abbrev B : Book
  B = book_of bytes

  s : Sizes bytes
  s = sizes bytes h.sizes_ok

  pos : 0 < word_length bytes
  pos = omega (arith, s.n_low)

  generator_body : T (body_ok bytes generator_at)
  unfolding symbols_ok
  generator_body = let t = h.symbols_ok in and_left (body_ok bytes generator_at) _ t

  pub dual_body : (l : ℕ) → l < duals_in bytes → T (body_ok bytes (dual_at (width bytes) l))
  unfolding symbols_ok
  dual_body l k = let t = h.symbols_ok in all-at (duals_in bytes) _ (and_right (body_ok bytes generator_at) _ t) l k

  -- a coefficient of the generator is read from its body, or is 0
  coefficient : (P : ℕ → Type 0) (i : ℕ) → (i < width bytes → P (body_place bytes generator_at i)) → P 0 → P (B.generator i)
  unfolding book_of
  coefficient P i inside outside = go (dec_lt i (width bytes))
    where
      go : Dec (i < width bytes) → P (coefficients (table (width bytes) (body_place bytes generator_at)) i)
      go (yes l) = subst P (sym (table_at (width bytes) (body_place bytes generator_at) l)) (inside l)
      go (no k) =
          subst P (sym (get_or-eq_default (table (width bytes) (body_place bytes generator_at)) 0 (le_trans (le_of_eq (table-length (width bytes) _)) (omega arith)))) outside

  generates : Generator F B.n B.degree B.generator
  unfolding book_of generator_ok
  generates =
      let t = h.generator_ok in
      record {
        degree_pos = leb→le 1 B.degree (search (and_left, and_right) depth 5);
        degree_lt = degree_lt (word_length bytes) B.generator pos;
        symbols = λ i. coefficient (λ x. x < F.q) i (body_symbol bytes generator_at generator_body i) (pow_pos (symbol_digits bytes));
        monic = eqb→eq (B.generator B.degree) 1 (search (and_left, and_right) depth 5);
        above = λ i k. above i k (dec_lt i (word_length bytes));
        divides_unity = search (and_left, and_right) depth 5;
      }
    where
      above : (i : ℕ) → B.degree < i → Dec (i < word_length bytes) → B.generator i ≡ 0
      above i k (yes l) = unfold book_of in degree_above (word_length bytes) B.generator i l k
      above i k (no l) = coefficient (λ x. x ≡ 0) i (λ b. body_zero bytes generator_at generator_body i b (omega arith)) refl

  pub whole_book : Whole bytes
  whole_book = whole bytes (own_length bytes h.length_ok h.kinds_ok)

  dual-tests : (l : ℕ) → l < B.dual_count → T (dual_ok F B l)
  unfolding duals_ok
  dual-tests l k = all-at B.dual_count (dual_ok F B) h.duals_ok l k

  pub accepted_book : Usable F B
  unfolding book_of dual_ok
  accepted_book =
      record {
        generates = generates;
        dual_symbols = λ l k j.
            body_symbol bytes (dual_at (width bytes) l) (dual_body l k) (j % word_length bytes) (omega (arith, mod-lt j pos, s.n_high));
        dual_period = λ l k j. ap (body_place bytes (dual_at (width bytes) l)) (add-mod_right j (word_length bytes));
        dual_product = λ l k m b. let t = dual-tests l k in
            eqb→eq (product F B.n B.generator (B.dual l) m) 0
            (all-at B.n (λ m. eqb (product F B.n B.generator (B.dual l) m) 0) (search (and_left, and_right) depth 5) m b);
        one_weight = λ l k. let t = dual-tests l k in
            eqb→eq (weight B.n (B.dual l)) (weight B.n (B.dual 0)) (search (and_left, and_right) depth 5);
      }

-- every theorem on accepted books is about bytes that are not refused
pub accepted : (bytes : List ℕ) → refusal bytes ≡ 0 → Sizes bytes × Usable (field_of bytes) (book_of bytes)
accepted bytes e = let h = sound bytes e in (sizes bytes h.sizes_ok, accepted_book bytes h)

-- The table of a word's multiples as it is built: a word laid twice over, and the rows below c put.
-- Assumes nothing.
use mathlib.Core.Path.{◌≡◌, refl, sym, ap, ap₂, ◌∙◌, subst}
use mathlib.Core.Logic.{⊎_elim}
use mathlib.Core.List.{List}
use Prim.Native.Nat.{ℕ, ◌+◌, ◌-◌, ◌*◌, ◌%◌, ◌^◌, ◌≤◌, ◌<◌}
use native.Mathlib.Nat.{mod-lt, mod-mod, mod-eq_of_lt, mod-eq-sub-mod, mul-suc, mul-le-mul_left, eq-or-lt_of_le, le_of_suc-le-suc}
use native.Mathlib.Numerals.{add-one}
use native.Mathlib.Decide.{dec_lt}
use native.Mathlib.Omega.{arith}
use lib.Bits.{bit_xor}
use lib.ListN.{length}
use lib.Pow.{pow_pos}
use Rattle.spec_range.specs.Table.{table, padded}
use Rattle.spec_field.specs.Field.{FieldLaws}
use Rattle.spec_field.specs.Symbols.{times_x, product, gf}
use Rattle.spec_field.proofs.Xor.{digit}
use Rattle.spec_field.proofs.Laws.{zero_mul, one_mul}
use Rattle.spec_field.proofs.Gf.{gf_laws}
use Rattle.spec_field.proofs.Doubling.{product_double, product_next}
use Rattle.word_array.specs.Stored.{place, Sizes}
use Rattle.word_table.specs.Multiples.{Laid, entry, word_of, Begun, RowStored, RowPut, Tabled}
use Rattle.word_table.specs.Window.{Window}
use Rattle.word_table.proofs.Window.{window_join, window_at, read_table, cut, cut_low, cut_high, padded_cut}

-- a row ends where a later one starts, or before
pub rows_apart : (stride : ℕ) {b c : ℕ} → b < c → stride * b + stride ≤ stride * c
rows_apart stride {b} {c} l = subst (λ (x : ℕ). x ≤ stride * c) (mul-suc stride b) (mul-le-mul_left stride l)

-- ---- rows 0 and 1

-- whole blocks, and one that is short of its last place
pub copied : {to at a b span : ℕ} {f : ℕ → ℕ} {last t₀ t₁ t₂ : List ℕ} → span ≡ a + b → 0 < b → at ≡ to + a → last ≡ padded b (b - 1) (λ k. f (a + k))
    → Window to a f t₀ t₁ → Window at b (place last) t₁ t₂ → Window to span (cut (span - 1) f) t₀ t₂
copied {a = a} {b} {span} {f} {last} es pos et el =
    window_join et es (λ k l. sym (cut_low (span - 1) f (omega arith)))
    (λ k l. read_table _ (el ∙ padded_cut b (b - 1) (λ k. f (a + k))) l ∙ short k l (dec_lt k (b - 1)))
  where
    short : (k : ℕ) → k < b → Dec (k < b - 1) → cut (b - 1) (λ k. f (a + k)) k ≡ cut (span - 1) f (a + k)
    short k l (yes d) = cut_low (b - 1) (λ k. f (a + k)) d ∙ sym (cut_low (span - 1) f (omega arith))
    short k l (no d) = cut_high (b - 1) (λ k. f (a + k)) (omega arith) ∙ sym (cut_high (span - 1) f (omega arith))

-- a word of n symbols whose last place in whole blocks is left out, written twice, the second time after its n symbols
pub laid : {n span to : ℕ} {f : ℕ → ℕ} {t₀ t₁ t₂ : List ℕ} → n < span → Window to span (cut (span - 1) f) t₀ t₁
    → Window (to + n) span (cut (span - 1) f) t₁ t₂ → Laid n span f to t₀ t₂
laid {n} {span} {to} {f} {t₀} {t₁} {t₂} fits one two =
    record {
      long = two.long ∙ one.long;
      twice = λ j l. twice j l (dec_lt j n);
      below = λ q pos h j l. below q pos h j l (dec_lt j n);
      low = λ k l. two.low k (omega arith) ∙ one.low k l;
      high = λ k l. two.high k (omega arith) ∙ one.high k (omega arith);
    }
  where
    -- the two copies
    first : (j : ℕ) → j < n → place t₂ (to + j) ≡ cut (span - 1) f j
    first j l = two.low (to + j) (omega arith) ∙ one.at j (omega arith)

    second : (j : ℕ) → n ≤ j → j < n + span → place t₂ (to + j) ≡ cut (span - 1) f (j - n)
    second j a b = ap (place t₂) (omega arith) ∙ two.at (j - n) (omega arith)

    twice : (j : ℕ) → j < n + n → Dec (j < n) → place t₂ (to + j) ≡ f (j % n)
    twice j l (yes b) = first j b ∙ cut_low (span - 1) f (omega arith) ∙ ap f (sym (mod-eq_of_lt b))
    twice j l (no b) =
        let k : j - n < n = omega arith in
        second j (omega arith) (omega arith) ∙ cut_low (span - 1) f (omega arith)
        ∙ ap f (sym (mod-eq-sub-mod {n = j} {m = n} (omega arith) ∙ mod-eq_of_lt k))

    cut_below : (q : ℕ) → 0 < q → ((j : ℕ) → j + 1 < span → f j < q) → (j : ℕ) → Dec (j + 1 < span) → cut (span - 1) f j < q
    cut_below q pos h j (yes b) = subst (λ (x : ℕ). x < q) (sym (cut_low (span - 1) f (omega arith))) (h j b)
    cut_below q pos h j (no b) = subst (λ (x : ℕ). x < q) (sym (cut_high (span - 1) f (omega arith))) pos

    below : (q : ℕ) → 0 < q → ((j : ℕ) → j + 1 < span → f j < q) → (j : ℕ) → j < n + span → Dec (j < n) → place t₂ (to + j) < q
    below q pos h j l (yes b) = subst (λ (x : ℕ). x < q) (sym (first j b)) (cut_below q pos h j (dec_lt (j + 1) span))
    below q pos h j l (no b) = subst (λ (x : ℕ). x < q) (sym (second j (omega arith) l)) (cut_below q pos h (j - n) (dec_lt (j - n + 1) span))

-- two rows cleared, and the word laid in the second
pub begun : {stride n span size to : ℕ} {f : ℕ → ℕ} {t₀ t₁ t₂ : List ℕ} → size ≡ stride + stride → to ≡ stride → Window 0 size (λ j. 0) t₀ t₁
    → Laid n span f to t₁ t₂ → Begun stride n span f t₀ t₂
begun {stride} {n} {span} {to = to} {f} {t₁ = t₁} {t₂ = t₂} es et zero word =
    record {
      long = word.long ∙ zero.long;
      zeros = λ j l. word.low j (omega arith) ∙ window_at zero j (omega arith);
      twice = λ j l. ap (place t₂) (omega arith) ∙ word.twice j l;
      below = λ q pos h j l. subst (λ (k : ℕ). place t₂ k < q) (omega arith) (below q pos h j l (dec_lt j (n + span)));
    }
  where
    below : (q : ℕ) → 0 < q → ((j : ℕ) → j + 1 < span → f j < q) → (j : ℕ) → j < stride → Dec (j < n + span) → place t₂ (to + j) < q
    below q pos h j l (yes b) = word.below q pos h j b
    below q pos h j l (no b) = subst (λ (x : ℕ). x < q) (sym (word.high (to + j) (omega arith) ∙ window_at zero (to + j) (omega arith))) pos

-- ---- the other rows

-- a row written whole
pub row_put : {stride c from j : ℕ} {f : ℕ → ℕ} {t₀ t : List ℕ} → from ≡ stride * c → j ≡ stride → Window from j f t₀ t → RowPut stride c f t₀ t
row_put {t₀ = t₀} {t = t} e s h =
    record {
      long = h.long;
      row = λ j l. ap (λ (x : ℕ). place t (x + j)) (sym e) ∙ h.at j (omega arith);
      low = λ k l. h.low k (omega arith);
      high = λ k l. h.high k (omega arith);
    }

-- block b that was read of row c is as it was, since only row 2c was written
pub block_as_before : (blocks c b : ℕ) {count : ℕ} {f : ℕ → ℕ} {row t₀ t : List ℕ} → 1 ≤ c → b < 2 * blocks → Window (128 * blocks * (2 * c)) count f t₀ t
    → row ≡ table 64 (λ k. place t (128 * blocks * c + 64 * b + k)) → (k : ℕ) → k < 64 → place row k ≡ entry (128 * blocks) t₀ c (64 * b + k)
block_as_before blocks c b {t₀ = t₀} pos in_row so_far read k l =
    let apart = rows_apart (128 * blocks) {b = c} {c = 2 * c} (omega (arith, pos)) in
    read_table _ read l ∙ so_far.low (128 * blocks * c + 64 * b + k) (omega (arith, apart)) ∙ ap (place t₀) (omega arith)

-- what φ reads of a byte, the whole or one of several symbols that it holds, is a symbol where the byte is one of d's
pub record Reading (stride p : ℕ) (φ d : ℕ → ℕ) : Type 0 where
  pub zero : φ 0 ≡ 0
  pub sum : (x y : ℕ) → φ (bit_xor x y) ≡ bit_xor (φ x) (φ y)
  pub symbol : (j : ℕ) → j < stride → φ (d j) < 2 ^ p

-- l' is what φ reads of l
pub record ReadAs (φ : ℕ → ℕ) (l l' : List ℕ) : Type 0 where
  pub at : (k : ℕ) → place l' k ≡ φ (place l k)

-- the rows below c, as φ reads them, are the multiples of d
pub record Rows (stride p c : ℕ) (φ d : ℕ → ℕ) (t : List ℕ) : Type 0 where
  pub rows : (b j : ℕ) → b < c → j < stride → φ (entry stride t b j) ≡ product p b (φ (d j))

rows_more : {stride p c : ℕ} {f φ d : ℕ → ℕ} {t t' : List ℕ} → ((j : ℕ) → j < stride → φ (f j) ≡ product p c (φ (d j))) → Rows stride p c φ d t
    → RowPut stride c f t t' → Rows stride p (c + 1) φ d t'
rows_more {stride} {p} {c} {f} {φ} {d} {t} {t'} e h put =
    record {
      rows = λ b j l s. ⊎_elim
          (λ q. subst (λ (b : ℕ). φ (entry stride t' b j) ≡ product p b (φ (d j))) (sym q) (ap φ (put.row j s) ∙ e j s))
          (λ l. ap φ (put.low (stride * b + j) (omega (arith, rows_apart stride l))) ∙ h.rows b j l s)
          (eq-or-lt_of_le (le_of_suc-le-suc (subst (λ (m : ℕ). b < m) (add-one c) l)));
    }

module _ {stride p n : ℕ} {φ d : ℕ → ℕ} (s : Sizes p n) (read : Reading stride p φ d) where
  laws : FieldLaws (gf p)
  laws = gf_laws p s.p_low s.p_high

  -- row 1, as φ reads it
  first-row : {c : ℕ} {t : List ℕ} → 1 < c → Rows stride p c φ d t → (j : ℕ) → j < stride → φ (entry stride t 1 j) ≡ φ (d j)
  first-row l h j k = h.rows 1 j l k ∙ one_mul (gf p) laws (φ (d j)) (read.symbol j k)

  -- the two rows made from row c: x times it, and the word more
  pub rows_double : {c : ℕ} {f : ℕ → ℕ} {t t₁ t₂ : List ℕ} → 1 ≤ c → Rows stride p (2 * c) φ d t → 2 * c < 2 ^ p → RowPut stride (2 * c) f t t₁
      → ((j : ℕ) → j < stride → φ (f j) ≡ times_x p (φ (entry stride t c j)))
      → RowPut stride (2 * c + 1) (λ j. bit_xor (entry stride t₁ (2 * c) j) (entry stride t₁ 1 j)) t₁ t₂ → Rows stride p (2 * (c + 1)) φ d t₂
  rows_double {c} {f} {t} {t₁} {t₂} pos h l put₁ e put₂ =
      subst (λ (m : ℕ). Rows stride p m φ d t₂) (omega arith)
      (rows_more
      (λ j k. read.sum _ _ ∙ ap₂ bit_xor (even.rows (2 * c) j (omega arith) k) (first-row (omega arith) even j k)
      ∙ sym (product_next p c _ s.p_low s.p_high (read.symbol j k)))
      even
      put₂)
    where
      even : Rows stride p (2 * c + 1) φ d t₁
      even = rows_more (λ j k. e j k ∙ ap (times_x p) (h.rows c j (omega arith) k) ∙ sym (product_double p c _ l)) h put₁

-- the word is what row 1 has at first
module _ {stride p n span : ℕ} {φ f : ℕ → ℕ} {t₀ t₁ : List ℕ} (s : Sizes p n) (begins : Begun stride n span f t₀ t₁)
    (read : Reading stride p φ (entry stride t₁ 1)) where
  gf-law : FieldLaws (gf p)
  gf-law = gf_laws p s.p_low s.p_high

  pub rows_first : Rows stride p 2 φ (entry stride t₁ 1) t₁
  rows_first = record { rows = first }
    where
      first : (b j : ℕ) → b < 2 → j < stride → φ (entry stride t₁ b j) ≡ product p b (φ (entry stride t₁ 1 j))
      first b j b<2 l =
          digit (λ b. φ (entry stride t₁ b j) ≡ product p b (φ (entry stride t₁ 1 j)))
          (ap φ (ap (place t₁) (omega arith) ∙ begins.zeros j l) ∙ read.zero ∙ sym (zero_mul (gf p) gf-law _))
          (sym (one_mul (gf p) gf-law _ (read.symbol j l))) b b<2

  -- all rows: what φ reads of t is a table of what it reads of the word
  module _ {c : ℕ} {t t' : List ℕ} (fits : n + n ≤ stride) (h : Rows stride p c φ (entry stride t₁ 1) t) (l : 2 ^ p ≤ c) (tables : ReadAs φ t t') where
    row : (b j : ℕ) → b < 2 ^ p → j < stride → entry stride t' b j ≡ product p b (φ (entry stride t₁ 1 j))
    row b j d k = tables.at (stride * b + j) ∙ h.rows b j (omega arith) k

    -- row 1 is the word itself
    word : (j : ℕ) → word_of stride n t' j ≡ φ (f (j % n))
    unfolding word_of
    word j =
        let k = mod-lt j s.n_low in
        row 1 (j % n) gf-law.one_below (omega arith) ∙ one_mul (gf p) gf-law _ (read.symbol _ (omega arith))
        ∙ ap φ (begins.twice (j % n) (omega arith) ∙ ap f (mod-mod j n))

    pub rows_end : {t₂ : List ℕ} → stride * 2 ^ p ≤ length t₂ → length t' ≡ length t₂ → Tabled stride p n (λ j. φ (f j)) t₂ t'
    rows_end size long =
        record {
          long = long;
          multiples = record {
            size = subst (λ (x : ℕ). stride * 2 ^ p ≤ x) (sym long) size;
            symbol = λ b j d k. subst (λ (x : ℕ). x < 2 ^ p) (sym (row b j d k)) (gf-law.mul_below b _);
            multiple = λ b j d k. row b j d (omega arith) ∙ ap (product p b) (ap φ (begins.twice j k) ∙ sym (word j));
          };
          word = word;
        }

-- ---- bytes that are symbols

pub whole : {stride p n span : ℕ} {f : ℕ → ℕ} {t₀ t : List ℕ} → Begun stride n span f t₀ t → ((j : ℕ) → j + 1 < span → f j < 2 ^ p)
    → Reading stride p (λ x. x) (entry stride t 1)
whole {p = p} h symbol = record { zero = refl; sum = λ x y. refl; symbol = h.below (2 ^ p) (pow_pos p) symbol }

pub as_whole : (l : List ℕ) → ReadAs (λ x. x) l l
as_whole l = record { at = λ k. refl }

-- row c of a table so far has symbols only
pub rows_stored : {stride p n c : ℕ} {d : ℕ → ℕ} {t : List ℕ} → Sizes p n → 1 ≤ c → Rows stride p (2 * c) (λ x. x) d t → RowStored stride p c t
rows_stored {p = p} {c = c} {d} s pos h =
    record {
      symbol = λ j l. subst (λ (x : ℕ). x < 2 ^ p) (sym (h.rows c j (omega arith) l)) ((gf_laws p s.p_low s.p_high).mul_below c (d j));
    }

-- The products of packed dual words with the generator, by the table of their multiples: symbol i of a place is the product of dual word l + i there.
-- Assumes nothing.
use mathlib.Core.Path.{◌≡◌, refl, sym, ap, ◌∙◌, subst}
use mathlib.Core.Bool.{Bool, cond}
use mathlib.Core.List.{List}
use Prim.Native.Nat.{ℕ, zero, suc, ◌+◌, ◌-◌, ◌*◌, ◌/◌, ◌%◌, ◌^◌, ◌≤◌, ◌<◌}
use native.Mathlib.Nat.{mod-lt, mod-eq_of_lt, le_refl, lt_irrefl, mul-le-mul_left, div-le_self}
use native.Mathlib.Decide.{dec_lt}
use native.Mathlib.Omega.{arith}
use borrow.Author.Tests.{lt-ltb, le-ltb}
use lib.Bits.{bit_xor, xor_lt}
use lib.Dec.{T, eqb, ltb, eqb→eq}
use Rattle.spec_range.specs.Fold.{fold, all}
use Rattle.spec_range.proofs.Fold.{fold_cong, fold-unit}
use Rattle.spec_range.proofs.Table.{all-at, all_of}
use Rattle.spec_range.proofs.Tests.{same_test, eq→eqb}
use Rattle.spec_field.specs.Field.{FieldLaws}
use Rattle.spec_field.specs.Symbols.{gf}
use Rattle.spec_field.proofs.Gf.{gf_laws}
use Rattle.spec_word.specs.Word.{product}
use Rattle.spec_word.proofs.Product.{product_cong}
use Rattle.spec_word.proofs.Sums.{field_sums, additive_sum}
use Rattle.sizes.specs.Blocks.{span}
use Rattle.sizes.proofs.Lengths.{blocks_fit}
use Rattle.spec_word.specs.Lanes.{lane}
use Rattle.spec_word.proofs.Lanes.{lane_zero, lane_xor}
use Rattle.word_array.specs.Stored.{place}
use Rattle.word_table.specs.Multiples.{word_of, Tabled}
use Rattle.word_table.specs.Window.{Window}
use Rattle.word_table.specs.Rows.{turned, turned_sum}
use Rattle.word_table.proofs.Window.{window_at}
use Rattle.word_table.proofs.Rows.{rows_apart}
use Rattle.word_table.proofs.Sums.{turned-product}
use Rattle.spec_book.specs.Layout.{width, dual_at, byte, body_place}
use Rattle.book_duals.specs.Duals.{generator_word, dual_word, dual_product, Zeros, Tested}
use Rattle.book_duals.specs.Lanes.{lanes, packed_at}
use Rattle.book_duals.proofs.Lanes.{lanes_at}
use Rattle.book_duals.proofs.ByteTests.{byte_zero}
use Rattle.book_duals.proofs.Packing.{packed-small, packed-symbol}

-- fewer dual words
pub tested_part : {bytes : List ℕ} {p n m duals : ℕ} → m ≤ duals → Tested bytes p n duals → Tested bytes p n m
tested_part {bytes} {m = m} l s =
    record {
      sizes = s.sizes;
      duals_high = omega (arith, s.duals_high);
      room = omega (arith, s.room, mul-le-mul_left (1 + width bytes) l);
      spanned = s.spanned;
      generator = s.generator;
      symbol = λ i j b d. s.symbol i j (omega arith) d;
    }

-- a sum of bytes is a byte
sum-byte : (n : ℕ) (f : ℕ → ℕ) → ((u : ℕ) → f u < 256) → fold bit_xor 0 n f < 256
unfolding fold
sum-byte zero f h = omega arith
sum-byte (suc n) f h = xor_lt 8 (fold bit_xor 0 n f) (f n) (sum-byte n f h) (h n)

module _ {bytes : List ℕ} {p n duals : ℕ} (s : Tested bytes p n duals) (p_high : p ≤ 3) where
  laws : FieldLaws (gf p)
  laws = gf_laws p s.sizes.p_low s.sizes.p_high

  generator_at_lem : (u : ℕ) → u < n → place bytes (4 + u) ≡ generator_word n bytes u
  unfolding generator_word
  generator_at_lem u d = let m : u % n ≡ u = mod-eq_of_lt d in ap (place bytes) (omega arith)

  -- the row of a symbol of the generator is in a table of `size` places
  pub generator_row : (stride : ℕ) {size : ℕ} → stride * 2 ^ p ≤ size → (u : ℕ) → u < n → stride * place bytes (4 + u) + stride ≤ size
  generator_row stride fits u d = let small : place bytes (4 + u) < 2 ^ p = s.generator u d in omega (arith, rows_apart stride small)

  -- symbol i of a sum of rows
  lane-sum : (stride : ℕ) (b : ℕ → ℕ) (t : List ℕ) (i j : ℕ) → lane p i (turned_sum stride n n b t j) ≡ turned_sum stride n n b (lanes p i t) j
  unfolding turned_sum
  lane-sum stride b t i j =
      additive_sum (gf p) laws (lane p i) (lane_zero p i) (lane_xor p i) n (turned stride n b t j)
      ∙ fold_cong bit_xor 0 n (λ u d. sym (lanes_at p i t (stride * b u + (n - u) + j)))

  -- a product with the zero word
  product_zero : (a f : ℕ → ℕ) → ((j : ℕ) → f j ≡ 0) → (m : ℕ) → product (gf p) n a f m ≡ 0
  unfolding product
  product_zero a f z m = fold-unit bit_xor 0 (field_sums (gf p) laws) n _ (λ u d. ap ((gf p).mul (a u)) (z (m + (n - u))) ∙ laws.mul_zero (a u))

  -- ---- a word that packs dual words: its symbols stand after a kind byte

  module _ (l k : ℕ) {w₀ w : List ℕ} (few : k ≤ 8 / p) (within : l + k ≤ duals) (packs : Window 0 (span n) (packed_at p bytes l k) w₀ w) where
    symbol : (j : ℕ) → j + 1 < span n → (i : ℕ) → i < k → byte bytes (dual_at (width bytes) (l + i) + (1 + j)) < 2 ^ p
    symbol j d i b = subst (λ (m : ℕ). byte bytes m < 2 ^ p) (omega arith) (s.symbol (l + i) j (omega arith) d)

    packed-place : (j : ℕ) → j + 1 < span n → place w (1 + j) ≡ packed_at p bytes l k (1 + j)
    packed-place j d = window_at packs (1 + j) (omega arith)

    -- they have no digits but those of 8 / p symbols
    pub packed-digits : (j : ℕ) → j + 1 < span n → place w (1 + j) < 2 ^ (8 / p * p)
    packed-digits j d = subst (λ (x : ℕ). x < 2 ^ (8 / p * p)) (sym (packed-place j d)) (packed-small p bytes l k (1 + j) few (symbol j d))

    packed-symbols : (i j : ℕ) → j + 1 < span n → lane p i (place w (1 + j)) ≡ cond (ltb i k) (body_place bytes (dual_at (width bytes) (l + i)) j) 0
    packed-symbols i j d =
        let here : dual_at (width bytes) (l + i) + (1 + j) ≡ dual_at (width bytes) (l + i) + 1 + j = omega arith in
        ap (lane p i) (packed-place j d) ∙ packed-symbol p bytes l k (1 + j) few (symbol j d) i
        ∙ ap (λ (m : ℕ). cond (ltb i k) (byte bytes m) 0) here

    -- ---- its product with the generator

    module _ {stride : ℕ} {word₀ word : List ℕ} (t₀ t : List ℕ)
        (tab : (i : ℕ) → i < 9 → Tabled stride p n (λ j. lane p i (place w (1 + j))) (lanes p i t₀) (lanes p i t))
        (small : (m : ℕ) → place t m < 256) (e : Window 0 (span n) (turned_sum stride n n (λ u. place bytes (4 + u)) t) word₀ word) where
      fits : n < span n
      fits = blocks_fit s.sizes.n_high

      -- the packed words
      word_is : (i : ℕ) → i < 9 → (m : ℕ) → word_of stride n (lanes p i t) m ≡ cond (ltb i k) (dual_word n bytes (l + i) m) 0
      unfolding dual_word
      word_is i b m = (tab i b).word m ∙ packed-symbols i (m % n) (omega (arith, mod-lt m s.sizes.n_low, fits))

      module _ (j : ℕ) (d : j < n) where
        place_is : place word j ≡ turned_sum stride n n (λ u. place bytes (4 + u)) t j
        place_is = window_at e j (omega (arith, fits))

        place_byte : place word j < 256
        unfolding turned_sum
        place_byte = subst (λ (x : ℕ). x < 256) (sym place_is) (sum-byte n _ (λ u. small _))

        -- symbol i of a place of the product
        lane-is : (i : ℕ) → i < 9 → lane p i (place word j) ≡ product (gf p) n (generator_word n bytes) (word_of stride n (lanes p i t)) j
        lane-is i b =
            ap (lane p i) place_is ∙ lane-sum stride (λ u. place bytes (4 + u)) t i j
            ∙ turned-product s.sizes (tab i b).multiples (le_refl n) s.generator generator_at_lem (λ u a c. absurd (lt_irrefl u (omega arith))) j d

        packed-lane : (i : ℕ) → i < 9 → i < k → lane p i (place word j) ≡ dual_product p n bytes (l + i) j
        packed-lane i b c =
            lane-is i b
            ∙ product_cong (gf p) laws n (λ u _. refl) (λ m. word_is i b m ∙ ap (λ (t : Bool). cond t (dual_word n bytes (l + i) m) 0) (lt-ltb i k c)) j

        other-lane : (i : ℕ) → i < 9 → k ≤ i → lane p i (place word j) ≡ 0
        other-lane i b c =
            lane-is i b
            ∙ product_zero _ _ (λ m. word_is i b m ∙ ap (λ (t : Bool). cond t (dual_word n bytes (l + i) m) 0) (le-ltb i k c)) j

        -- a place is zero where it is in the products of all k dual words
        packed_zero : eqb (place word j) 0 ≡ all k (λ i. eqb (dual_product p n bytes (l + i) j) 0)
        packed_zero =
            same_test _ _
            (λ t. all_of k _ (λ i c.
            eq→eqb (sym (packed-lane i (omega (arith, div-le_self 8 p)) c) ∙ ap (lane p i) (eqb→eq (place word j) 0 t) ∙ lane_zero p i)))
            (λ t. eq→eqb (byte_zero p (place word j) s.sizes.p_low p_high place_byte (λ i b. each t i b (dec_lt i k))))
          where
            each : T (all k (λ i. eqb (dual_product p n bytes (l + i) j) 0)) → (i : ℕ) → i < 9 → Dec (i < k)
                → lane p i (place word j) ≡ 0
            each t i b (yes c) = packed-lane i b c ∙ eqb→eq _ 0 (all-at k _ t i c)
            each t i b (no c) = other-lane i b (omega arith)

      pub packed-zeros : Zeros n (dual_product p n bytes) l k word
      packed-zeros = record { zeros = packed_zero }

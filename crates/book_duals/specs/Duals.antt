-- What the test of condition 7 reads off a book's bytes: the generator and the dual words, as words of n symbols, and what is known of them there.
-- Assumes nothing.
use Rattle.std.specs.Prelude.{◌≡◌, Bool, ◌&&◌, List, ℕ, ◌+◌, ◌%◌, ◌^◌, ◌≤◌, ◌<◌, eqb, length}
use Rattle.spec_range.specs.Fold.{all}
use Rattle.spec_field.specs.Symbols.{gf}
use Rattle.spec_word.specs.Word.{weight, product}
use Rattle.sizes.specs.Blocks.{span}
use Rattle.word_array.specs.Stored.{place, Sizes}
use Rattle.word_table.specs.Multiples.{word_of, Multiples}
use Rattle.spec_book.specs.Layout.{width, generator_at, dual_at, byte, body_place}

-- the generator, as a function with the period n
unfoldable pub generator_word : ℕ → List ℕ → ℕ → ℕ
generator_word n bytes j = body_place bytes generator_at (j % n)

-- dual word l, as a function with the period n
unfoldable pub dual_word : ℕ → List ℕ → ℕ → ℕ → ℕ
dual_word n bytes l j = body_place bytes (dual_at (width bytes) l) (j % n)

-- place m of the product of the generator and dual word l
abbrev pub dual_product : ℕ → ℕ → List ℕ → ℕ → ℕ → ℕ
dual_product p n bytes l m = product (gf p) n (generator_word n bytes) (dual_word n bytes l) m

-- dual word l has symbol 1 at place 0, and the weight of the first
unfoldable pub weight_ok : ℕ → List ℕ → ℕ → Bool
weight_ok n bytes l = eqb (dual_word n bytes l 0) 1 && eqb (weight n (dual_word n bytes l)) (weight n (dual_word n bytes 0))

-- its product with the generator is zero
unfoldable pub product_ok : ℕ → ℕ → List ℕ → ℕ → Bool
product_ok p n bytes l = all n (λ m. eqb (dual_product p n bytes l m) 0)

-- the places of a word below n are zero where those of f l, .., f (l + k - 1) are
pub record Zeros (n : ℕ) (f : ℕ → ℕ → ℕ) (l k : ℕ) (word : List ℕ) : Type 0 where
  pub zeros : (j : ℕ) → j < n → eqb (place word j) 0 ≡ all k (λ i. eqb (f (l + i) j) 0)

-- the bytes have room for the dual words in whole blocks with their kinds, which are not zero; the words are, from place n on
pub record Lying (bytes : List ℕ) (n duals : ℕ) : Type 0 where
  pub n_low : 1 ≤ n
  pub n_high : n ≤ 255
  pub duals_low : 1 ≤ duals
  pub duals_high : duals ≤ 32
  pub room : dual_at (width bytes) duals ≤ length bytes
  pub spanned : span n ≤ 1 + width bytes
  pub kind : (l : ℕ) → l < duals → 0 < byte bytes (dual_at (width bytes) l)
  pub zero : (l j : ℕ) → l < duals → n ≤ j → j < width bytes → body_place bytes (dual_at (width bytes) l) j ≡ 0

-- the generator and the dual words are in the bytes, and have symbols of GF(2^p), the dual words in whole blocks
pub record Tested (bytes : List ℕ) (p n duals : ℕ) : Type 0 where
  pub sizes : Sizes p n
  pub duals_high : duals ≤ 32
  pub room : dual_at (width bytes) duals ≤ length bytes
  pub spanned : span n ≤ 1 + width bytes
  pub generator : (j : ℕ) → j < n → body_place bytes generator_at j < 2 ^ p
  pub symbol : (l j : ℕ) → l < duals → j + 1 < span n → body_place bytes (dual_at (width bytes) l) j < 2 ^ p

-- t is a table of the generator's multiples
pub record Table (stride : ℕ) (bytes : List ℕ) (p n : ℕ) (t : List ℕ) : Type 0 where
  pub multiples : Multiples stride p n t
  pub word : (j : ℕ) → j < n → word_of stride n t j ≡ body_place bytes generator_at j

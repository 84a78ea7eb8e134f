-- What listing the terms of a book's dual words asks, and what listing one of them leaves.
-- Assumes nothing.
use Rattle.std.specs.Prelude.{◌≡◌, List, ℕ, ◌+◌, ◌*◌, ◌^◌, ◌≤◌, ◌<◌, length}
use Rattle.spec_word.specs.Word.{weight}
use Rattle.word_array.specs.Stored.{place, Sizes}
use Rattle.sizes.specs.Blocks.{blocks}
use Rattle.spec_book.specs.Layout.{word_length, width, dual_at}
use Rattle.matrix_terms.specs.Terms.{dual_of, Turns, term, terms_at}

-- dual word l lies within the book, and has symbols only
pub record DualIn (bytes : List ℕ) (p n l : ℕ) : Type 0 where
  pub sizes : Sizes p n
  pub length_is : n ≡ word_length bytes
  pub few : l < 32
  pub within : dual_at (width bytes) l + 1 + n ≤ length bytes
  pub symbol : (j : ℕ) → dual_of bytes l j < 2 ^ p

-- row l lies within the room, and every symbol has a small number there, zero too
pub record RowIn (p n l : ℕ) (terms : List ℕ) : Type 0 where
  pub within : terms_at + 64 * blocks n * l + 64 * blocks n ≤ length terms
  pub small : (c : ℕ) → c < 2 ^ p → place terms c < 2 ^ p

-- each of the first `duals` dual words lies within the book and has symbols only, and all of them have one weight
pub record Listable (bytes : List ℕ) (p n duals : ℕ) : Type 0 where
  pub sizes : Sizes p n
  pub length_is : n ≡ word_length bytes
  pub duals_low : 1 ≤ duals
  pub duals_high : duals ≤ 32
  pub within : (l : ℕ) → l < duals → dual_at (width bytes) l + 1 + n ≤ length bytes
  pub symbol : (l j : ℕ) → l < duals → dual_of bytes l j < 2 ^ p
  pub one_weight : (l : ℕ) → l < duals → weight n (dual_of bytes l) ≡ weight n (dual_of bytes 0)

-- row l became the terms of dual word l, which has the weight w; the numbers below it and the length are as before
pub record DualListed (stride : ℕ) (bytes : List ℕ) (n l w : ℕ) (terms₀ terms : List ℕ) : Type 0 where
  pub long : length terms ≡ length terms₀
  pub low : (k : ℕ) → k < terms_at + 64 * blocks n * l → place terms k ≡ place terms₀ k
  pub turns_of : Turns stride n (dual_of bytes l) terms₀ w (term n terms l)

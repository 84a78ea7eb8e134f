-- The signatures of a book's dual words, and what the code lays out to take them.
-- Assumes nothing.
use Rattle.std.specs.Prelude.{◌≡◌, List, ℕ, ◌+◌, ◌*◌, ◌≤◌, ◌<◌, eqb, length}
use Rattle.spec_range.specs.Fold.{count}
use Rattle.sizes.specs.Blocks.{span}
use Rattle.word_array.specs.Stored.{place}
use Rattle.word_alike.specs.Signature.{signature_of}
use Rattle.spec_book.specs.Layout.{width, dual_at}
use Rattle.book_duals.specs.Duals.{dual_word}

-- how many of 32 numbers are x
unfoldable pub times_of : List ℕ → ℕ → ℕ
times_of s x = count 32 (λ m. eqb (place s m) x)

-- the bytes have room for the dual words in whole blocks
pub record Bodies (bytes : List ℕ) (n duals : ℕ) : Type 0 where
  pub n_low : 1 ≤ n
  pub n_high : n ≤ 255
  pub most : duals ≤ 32
  pub room : dual_at (width bytes) duals ≤ length bytes
  pub spanned : span n ≤ 1 + width bytes

-- k dual words of the bytes, from dual word l on, were laid twice over, in rows of `stride` places; the length is as before
pub record Rows (stride : ℕ) (bytes : List ℕ) (n l k : ℕ) (rows₀ rows : List ℕ) : Type 0 where
  pub long : length rows ≡ length rows₀
  pub twice : (i j : ℕ) → i < k → j < n + n → place rows (stride * i + j) ≡ dual_word n bytes (l + i) j

-- s has 32 places, and the signatures of the dual words
pub record Signed (bytes : List ℕ) (n duals : ℕ) (s : List ℕ) : Type 0 where
  pub long : length s ≡ 32
  pub signed : (l : ℕ) → l < duals → place s l ≡ signature_of n (dual_word n bytes l)

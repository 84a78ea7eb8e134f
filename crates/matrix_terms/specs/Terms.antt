-- A room of numbers that belongs to an opened book, made once for many matrices. Number 0 is the weight of the dual words, 0 where nothing is listed
-- yet; the logarithms of the symbols follow, each at the place of its symbol, and from `powersAt` on the powers of x. From `termsAt` on each dual word has a row of
-- whole blocks of terms: one for each nonzero place h, `stride` times the logarithm of its symbol and h.
-- Assumes nothing.
use Rattle.std.specs.Prelude.{◌≡◌, cond, List, ℕ, ◌+◌, ◌*◌, ◌/◌, ◌%◌, ◌^◌, ◌≤◌, ◌<◌, length}
use Rattle.spec_range.specs.Fold.{fold}
use Rattle.spec_word.specs.Word.{nonzero}
use Rattle.sizes.specs.Blocks.{blocks, span}
use Rattle.word_array.specs.Stored.{place, Sizes}
use Rattle.field_powers.specs.Powers.{powers_end, PowersOf}
use Rattle.spec_book.specs.Layout.{book_of}

-- the nonzero places of a word b of n symbols, as many as `weight`: a fold over them is the fold over all places that leaves the zero ones out
pub record Places (n : ℕ) (b : ℕ → ℕ) (weight : ℕ) : Type 0 where
  pub place_at : ℕ → ℕ
  pub few : weight ≤ n
  pub place_lt : (i : ℕ) → i < weight → place_at i < n
  pub symbol_pos : (i : ℕ) → i < weight → 0 < b (place_at i)
  pub folds : (op : ℕ → ℕ → ℕ) (e : ℕ) → ((x : ℕ) → op x e ≡ x) → (f : ℕ → ℕ)
      → fold op e weight (λ i. f (place_at i)) ≡ fold op e n (λ h. cond (nonzero (b h)) (f h) e)

-- `turns` has for each nonzero place h where place h of row log (b h) is
pub record Turns (stride n : ℕ) (b : ℕ → ℕ) (logs : List ℕ) (weight : ℕ) (turns : ℕ → ℕ) : Type 0 where
  pub places : Places n b weight
  pub turn_at : (i : ℕ) → i < weight → turns i ≡ stride * place logs (b (places.place_at i)) + places.place_at i

-- dual word l of a book's bytes, with the period n
abbrev pub dual_of : List ℕ → ℕ → ℕ → ℕ
dual_of bytes l = (book_of bytes).dual l

-- where the terms of the first dual word are: behind the powers
abbrev pub terms_at : ℕ
terms_at = powers_end

-- the weight of the dual words, 0 where nothing is listed yet
abbrev pub weight_in : List ℕ → ℕ
weight_in terms = place terms 0

-- term i of dual word l of n symbols
abbrev pub term : ℕ → List ℕ → ℕ → ℕ → ℕ
term n terms l i = place terms (terms_at + 64 * blocks n * l + i)

-- what makes the reads of a room safe, about its numbers alone
pub record Terms (stride p n duals : ℕ) (terms : List ℕ) : Type 0 where
  pub sizes : Sizes p n
  pub fits : n + n ≤ stride
  pub few_duals : duals ≤ 32
  pub long : terms_at + 64 * blocks n * 32 ≤ length terms
  pub powers : PowersOf p terms
  pub few : weight_in terms ≤ n
  pub log_lt : (l i : ℕ) → l < duals → i < weight_in terms → term n terms l i / stride + 1 < 2 ^ p
  pub place_lt : (l i : ℕ) → l < duals → i < weight_in terms → term n terms l i % stride < n

-- row l has the terms of the word b
pub record RowOf (stride p n l : ℕ) (b : ℕ → ℕ) (terms : List ℕ) : Type 0 where
  pub symbol : (j : ℕ) → b j < 2 ^ p
  pub turns_of : Turns stride n b terms (weight_in terms) (term n terms l)

-- the room has the terms of the first `duals` of the dual words b
pub record TermsOf (stride p n duals : ℕ) (b : ℕ → ℕ → ℕ) (terms : List ℕ) : Type 0 where
  pub numbers : Terms stride p n duals terms
  pub row_of : (l : ℕ) → l < duals → RowOf stride p n l (b l) terms

-- nothing is listed in the room yet, or these are the terms
pub data Kept (stride p n duals : ℕ) (b : ℕ → ℕ → ℕ) (terms : List ℕ) : Type 0 where
  unlisted : weight_in terms ≡ 0 → Kept stride p n duals b terms
  already : TermsOf stride p n duals b terms → Kept stride p n duals b terms

-- what filling a matrix m of the word r asks: the room has the terms of some dual words, and r has symbols in all places of its blocks but the last
pub record Filling (stride p n duals : ℕ) (terms r m : List ℕ) : Type 0 where
  pub words : ℕ → ℕ → ℕ
  pub terms_of : TermsOf stride p n duals words terms
  pub room : span n ≤ length r + 1
  pub word : (j : ℕ) → j + 1 < span n → place r j < 2 ^ p
  pub size : length m ≡ 2 ^ p * n

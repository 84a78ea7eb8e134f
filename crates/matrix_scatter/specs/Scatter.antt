-- Counters in rows of n + 1 places: a symbol of a product goes to the row of its logarithm, and that of 0 above all others. Dividing by a symbol moves the
-- row, so that the count of a symbol is the sum of two counters, 2 ^ p - 1 rows apart.
-- Assumes nothing.
use Rattle.std.specs.Prelude.{◌≡◌, cond, List, ℕ, ◌+◌, ◌-◌, ◌*◌, ◌/◌, ◌%◌, ◌^◌, ◌≤◌, ◌<◌, eqb, length}
use Rattle.spec_range.specs.Fold.{total, indicator}
use Rattle.spec_word.specs.Word.{at, nonzero}
use Rattle.sizes.specs.Blocks.{blocks}
use Rattle.word_array.specs.Stored.{place, Sizes}
use Rattle.matrix_terms.specs.Terms.{term, terms_at, weight_in}

-- a room has the logarithms of the nonzero symbols, each at the place of its symbol
pub record Logged (p : ℕ) (logs : List ℕ) : Type 0 where
  pub long : 2 ^ p ≤ length logs
  pub log_lt : (c : ℕ) → 0 < c → c < 2 ^ p → place logs c + 1 < 2 ^ p

-- the row of a symbol
unfoldable pub symbol_row : ℕ → List ℕ → ℕ → ℕ
symbol_row p logs c = cond (nonzero c) (place logs c) (2 * (2 ^ p - 1))

-- where the row of each symbol starts
pub record RowStarts (p n : ℕ) (logs starts : List ℕ) : Type 0 where
  pub start : (c : ℕ) → c < 2 ^ p → place starts c ≡ symbol_row p logs c * (n + 1)

-- what the offsets of a word of n symbols ask: each symbol has a start, and the offsets fit
pub record Started (n : ℕ) (starts w : List ℕ) : Type 0 where
  pub symbol : (j : ℕ) → j < n → place w j < 64
  pub small : (j : ℕ) → j < n → place starts (place w j) ≤ 8192

-- the offsets of the word w twice over: place m has the start of its symbol's row, and m; the length is as before
pub record Offsets (n : ℕ) (starts w cells₀ cells : List ℕ) : Type 0 where
  pub long : length cells ≡ length cells₀
  pub offset : (m : ℕ) → m < n + n → place cells m ≡ place starts (at n w m) + m

-- what raising four counters asks
pub record Four (x₀ x₁ x₂ x₃ : ℕ) (counts : List ℕ) : Type 0 where
  pub in₀ : x₀ < length counts
  pub in₁ : x₁ < length counts
  pub in₂ : x₂ < length counts
  pub in₃ : x₃ < length counts
  pub room : (k : ℕ) → place counts k ≤ 65530

-- how many of four are k
unfoldable pub four_adds : ℕ → ℕ → ℕ → ℕ → ℕ → ℕ
four_adds x₀ x₁ x₂ x₃ k = indicator (eqb x₀ k) + indicator (eqb x₁ k) + indicator (eqb x₂ k) + indicator (eqb x₃ k)

-- what counting the offsets of `count` places from h on asks, moved by `base`
pub record Within (cells : List ℕ) (h base count : ℕ) (counts : List ℕ) (most : ℕ) : Type 0 where
  pub long : h + count ≤ length cells
  pub inside : (j : ℕ) → j < count → base + place cells (h + j) < length counts
  pub room : (k : ℕ) → place counts k ≤ most

-- 1 where the offset of the z-th place from h on, moved by `base`, is k
unfoldable pub cell_adds : List ℕ → ℕ → ℕ → ℕ → ℕ → ℕ
cell_adds cells h base k z = indicator (eqb (base + place cells (h + z)) k)

-- the row of place m, read off its offset
unfoldable pub row_at : ℕ → List ℕ → ℕ → ℕ
row_at n cells m = (place cells m - m) / (n + 1)

-- how many terms of a dual word count in row e of the counters and column j: `row` tells the rows of the product's symbols
unfoldable pub rows_with : ℕ → ℕ → (ℕ → ℕ) → ℕ → (ℕ → ℕ) → ℕ → ℕ → ℕ
rows_with stride p row weight turns e j = total weight (λ i. indicator (eqb (row (turns i % stride + j) + (2 ^ p - 1 - turns i / stride)) e))

-- how many terms of dual word l count in the flat counter k: `cells` has the offsets of the product
abbrev pub terms_add : ℕ → ℕ → ℕ → ℕ → List ℕ → List ℕ → ℕ → ℕ
terms_add stride l p n cells terms k = rows_with stride p (row_at n cells) (weight_in terms) (term n terms l) (k / (n + 1)) (k % (n + 1))

-- what counting the terms of dual word l asks
pub record Countable (stride l p n : ℕ) (cells terms counts : List ℕ) : Type 0 where
  pub sizes : Sizes p n
  pub eights : (n + 1) % 8 ≡ 0
  pub low : l < 32
  pub few : weight_in terms ≤ n
  pub cells_long : n + n ≤ length cells
  pub row_le : (m : ℕ) → m < n + n → row_at n cells m ≤ 2 * (2 ^ p - 1)
  pub cell_at : (m : ℕ) → m < n + n → place cells m ≡ row_at n cells m * (n + 1) + m
  pub terms_long : terms_at + 64 * blocks n * 32 ≤ length terms
  pub place_lt : (i : ℕ) → i < weight_in terms → term n terms l i % stride < n
  pub log_lt : (i : ℕ) → i < weight_in terms → term n terms l i / stride + 1 < 2 ^ p
  pub size : (3 * (2 ^ p - 1) + 1) * (n + 1) ≤ length counts
  pub room : (k : ℕ) → place counts k ≤ 64900

-- n cells of m from `from` on became the sums of those of the counters from `low` and from `high` on; the others are as before
pub record RowGathered (n from low high : ℕ) (counts m₀ m : List ℕ) : Type 0 where
  pub long : length m ≡ length m₀
  pub sum : (j : ℕ) → j < n → place m (from + j) ≡ place counts (low + j) + place counts (high + j)
  pub below : (k : ℕ) → k < from → place m k ≡ place m₀ k
  pub above : (k : ℕ) → from + n ≤ k → place m k ≡ place m₀ k

-- what gathering the rows asks
pub record Gatherable (p n : ℕ) (logs counts m : List ℕ) : Type 0 where
  pub sizes : Sizes p n
  pub logged : Logged p logs
  pub long : (3 * (2 ^ p - 1) + 1) * (n + 1) ≤ length counts
  pub small : (k : ℕ) → place counts k ≤ 8160
  pub size : length m ≡ 2 ^ p * n

-- the two counters of the symbol with the logarithm e
unfoldable pub both_rows : ℕ → ℕ → List ℕ → ℕ → ℕ → ℕ
both_rows p n counts e j = place counts (e * (n + 1) + j) + place counts ((e + (2 ^ p - 1)) * (n + 1) + j)

-- the rows of m from 1 on are gathered
pub record Gathered (p n : ℕ) (logs counts m₀ m : List ℕ) : Type 0 where
  pub long : length m ≡ length m₀
  pub row : (i j : ℕ) → 0 < i → i < 2 ^ p → j < n → place m (i * n + j) ≡ both_rows p n counts (place logs i) j

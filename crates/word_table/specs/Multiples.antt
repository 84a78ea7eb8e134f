-- A table of the multiples of a word of n symbols: row c, `stride` places long, has c times the word's symbols, twice over. Row 1 is the word itself.
-- Assumes nothing.
use Rattle.std.specs.Prelude.{◌≡◌, List, ℕ, ◌+◌, ◌*◌, ◌%◌, ◌^◌, ◌≤◌, ◌<◌, length}
use Rattle.spec_field.specs.Symbols.{gf}
use Rattle.spec_field.specs.Symbols as symbols
use Rattle.spec_word.specs.Word.{product}
use Rattle.word_array.specs.Stored.{place, Stored}

-- the word of n symbols whose places are f's was laid twice over from `to` on, in n + span places, which are symbols where f's are; f is read below
-- span - 1; the other places, and the length, are as before
pub record Laid (n span : ℕ) (f : ℕ → ℕ) (to : ℕ) (t₀ t : List ℕ) : Type 0 where
  pub long : length t ≡ length t₀
  pub twice : (j : ℕ) → j < n + n → place t (to + j) ≡ f (j % n)
  pub below : (q : ℕ) → 0 < q → ((j : ℕ) → j + 1 < span → f j < q) → (j : ℕ) → j < n + span → place t (to + j) < q
  pub low : (k : ℕ) → k < to → place t k ≡ place t₀ k
  pub high : (k : ℕ) → to + (n + span) ≤ k → place t k ≡ place t₀ k

-- the entry in row c at place j
abbrev pub entry : ℕ → List ℕ → ℕ → ℕ → ℕ
entry stride t c j = place t (stride * c + j)

-- the word that a table is of, as a function with the period n
unfoldable pub word_of : ℕ → ℕ → List ℕ → ℕ → ℕ
word_of stride n t j = entry stride t 1 (j % n)

pub record Multiples (stride p n : ℕ) (t : List ℕ) : Type 0 where
  pub size : stride * 2 ^ p ≤ length t
  pub symbol : (c j : ℕ) → c < 2 ^ p → j < stride → entry stride t c j < 2 ^ p
  pub multiple : (c j : ℕ) → c < 2 ^ p → j < n + n → entry stride t c j ≡ symbols.product p c (word_of stride n t j)

-- row 0 of t became zero, and row 1 the word of n symbols whose places are f's, twice over, with symbols only where f's are; the length is as before
pub record Begun (stride n span : ℕ) (f : ℕ → ℕ) (t₀ t : List ℕ) : Type 0 where
  pub long : length t ≡ length t₀
  pub zeros : (j : ℕ) → j < stride → place t j ≡ 0
  pub twice : (j : ℕ) → j < n + n → entry stride t 1 j ≡ f (j % n)
  pub below : (q : ℕ) → 0 < q → ((j : ℕ) → j + 1 < span → f j < q) → (j : ℕ) → j < stride → entry stride t 1 j < q

-- row c of t has symbols only
pub record RowStored (stride p c : ℕ) (t : List ℕ) : Type 0 where
  pub symbol : (j : ℕ) → j < stride → entry stride t c j < 2 ^ p

-- row c of t became f's values; the places below it and above it, and the length, are as before
pub record RowPut (stride c : ℕ) (f : ℕ → ℕ) (t₀ t : List ℕ) : Type 0 where
  pub long : length t ≡ length t₀
  pub row : (j : ℕ) → j < stride → entry stride t c j ≡ f j
  pub low : (k : ℕ) → k < stride * c → place t k ≡ place t₀ k
  pub high : (k : ℕ) → stride * c + stride ≤ k → place t k ≡ place t₀ k

-- t became the table of the word of n symbols whose places are f's, and is as long as before
pub record Tabled (stride p n : ℕ) (f : ℕ → ℕ) (t₀ t : List ℕ) : Type 0 where
  pub long : length t ≡ length t₀
  pub multiples : Multiples stride p n t
  pub word : (j : ℕ) → word_of stride n t j ≡ f (j % n)

-- r has the product of b and f below n; all its places are symbols
pub record Multiplied (span p n : ℕ) (b f : ℕ → ℕ) (r : List ℕ) : Type 0 where
  pub symbols : Stored p span r
  pub places : (j : ℕ) → j < n → place r j ≡ product (gf p) n b f j

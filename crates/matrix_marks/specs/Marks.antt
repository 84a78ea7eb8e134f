-- Marks, and the counters that they are added to: rows of marks have `stride` places, one row for each power of x, and rows of counters `span` columns.
-- Assumes nothing.
use Rattle.std.specs.Prelude.{◌≡◌, List, ℕ, ◌+◌, ◌-◌, ◌*◌, ◌/◌, ◌%◌, ◌^◌, ◌≤◌, ◌<◌, eqb, length}
use Rattle.spec_range.specs.Fold.{total, indicator, count}
use Rattle.spec_word.specs.Word.{at}
use Rattle.word_array.specs.Stored.{place, Sizes}
use Rattle.word_table.specs.Multiples.{Multiples}
use Rattle.field_powers.specs.Powers.{power}
use Rattle.matrix_terms.specs.Count.{dual_counts}
use Rattle.matrix_terms.specs.Terms.{TermsOf, terms_at}

-- the powers of a room
abbrev pub powers_in : List ℕ → ℕ → ℕ
powers_in terms e = place terms (64 + e)

-- v has as many rows, each with room for the word w of n symbols twice over, and the first powers of a room are bytes
pub record Markable (stride span n rows : ℕ) (terms w v : List ℕ) : Type 0 where
  pub short : n ≤ span
  pub fits : n + span ≤ stride
  pub within : 64 + rows ≤ length terms
  pub word : span ≤ length w
  pub long : stride * rows ≤ length v
  pub byte : (e : ℕ) → e < rows → place terms (64 + e) < 256

-- the first rows of v mark where the word w of n symbols, twice over, has the symbol of the row
pub record Marked (stride span n rows : ℕ) (symbols : ℕ → ℕ) (w v : List ℕ) : Type 0 where
  pub long : stride * rows ≤ length v
  pub mark_at : (e j : ℕ) → e < rows → j < n + n → place v (stride * e + j) ≡ indicator (eqb (at n w j) (symbols e))
  pub mark_le : (e j : ℕ) → e < rows → j < n + span → place v (stride * e + j) ≤ 1

-- the marks from `from` on can be added to a row of counters
pub record Addable (span : ℕ) (v : List ℕ) (from : ℕ) (row : List ℕ) : Type 0 where
  pub within : from + span ≤ length v
  pub long : length row ≡ span
  pub fits : (j : ℕ) → j < span → place row j + place v (from + j) ≤ 255

-- the marks of column j, summed over the `weight` terms from `from` on, from `start` on in v
abbrev pub marks_of : List ℕ → ℕ → List ℕ → ℕ → ℕ → ℕ → ℕ
marks_of v start terms from weight j = total weight (λ i. place v (start + place terms (from + i) + j))

-- the terms lie within v, where they have marks, and a byte holds their sum
pub record Summable (span : ℕ) (v : List ℕ) (start : ℕ) (terms : List ℕ) (from weight : ℕ) : Type 0 where
  pub few : weight ≤ 255
  pub long : from + weight ≤ length terms
  pub start_in : start + span ≤ length v
  pub within : (i : ℕ) → i < weight → start + place terms (from + i) + span ≤ length v
  pub mark_le : (i j : ℕ) → i < weight → j < span → place v (start + place terms (from + i) + j) ≤ 1

-- each term of a dual word is `stride` times a logarithm and a place
pub record Turning (stride p n : ℕ) (terms : ℕ → ℕ) (weight : ℕ) : Type 0 where
  pub few : weight ≤ 255
  pub log_lt : (i : ℕ) → i < weight → terms i / stride + 1 < 2 ^ p
  pub place_lt : (i : ℕ) → i < weight → terms i % stride < n

-- the terms of one dual word, from `from` on
abbrev pub terms_from : List ℕ → ℕ → ℕ → ℕ
terms_from terms from i = place terms (from + i)

-- how many terms count for x ^ e in column j: at the term's place the product w of the dual word and the received word has x ^ e times the term's symbol
unfoldable pub term_counts : ℕ → ℕ → (ℕ → ℕ) → (ℕ → ℕ) → ℕ → ℕ → ℕ → ℕ
term_counts stride p w terms weight e j = count weight (λ i. eqb (w (j + terms i % stride)) (power p (e + terms i / stride)))

-- what counting a dual word asks, w being its product with the received word and v the room for its marks
pub record Turned (stride span p n : ℕ) (w terms : List ℕ) (from weight : ℕ) (v c : List ℕ) : Type 0 where
  pub sizes : Sizes p n
  pub short : n ≤ span
  pub fits : n + span ≤ stride
  pub power_at : (e : ℕ) → e + 2 < 2 * 2 ^ p → place terms (64 + e) ≡ power p e
  pub word : span ≤ length w
  pub turning : Turning stride p n (terms_from terms from) weight
  pub powers_long : terms_at ≤ length terms
  pub terms_long : from + weight ≤ length terms
  pub marks_long : stride * (2 * (2 ^ p - 1)) ≤ length v
  pub counts_long : span * (2 ^ p - 1) ≤ length c
  pub room : (k : ℕ) → place c k ≤ 65025

-- f e j is added to the counter of x ^ e in column j, and at most 255 to any
pub record Counted (span p n : ℕ) (f : ℕ → ℕ → ℕ) (c₀ c : List ℕ) : Type 0 where
  pub long : length c ≡ length c₀
  pub added : (e j : ℕ) → e + 1 < 2 ^ p → j < n → place c (span * e + j) ≡ place c₀ (span * e + j) + f e j
  pub room : (k : ℕ) → place c k ≤ place c₀ k + 255

-- the counters of the first l of the dual words whose terms a room has
pub record Tallied (stride span p n duals : ℕ) (terms : List ℕ) (r : ℕ → ℕ) (l : ℕ) (c : List ℕ) : Type 0 where
  pub long : span * (2 ^ p - 1) ≤ length c
  pub tally : (b : ℕ → ℕ → ℕ) → TermsOf stride p n duals b terms
      → (e j : ℕ) → e + 1 < 2 ^ p → j < n → place c (span * e + j) ≡ total l (λ l. dual_counts p n (b l) r (power p e) j)
  pub room : (k : ℕ) → place c k ≤ 255 * l

-- rooms for marks and for counters, which are zero
pub record Rooms (stride span p : ℕ) (v c : List ℕ) : Type 0 where
  pub marks_long : stride * (2 * (2 ^ p - 1)) ≤ length v
  pub counts_long : span * (2 ^ p - 1) ≤ length c
  pub zeros : (k : ℕ) → place c k ≡ 0

-- rooms of so many marks and so many counters suffice
pub record RoomsFit (stride span p marks counters : ℕ) : Type 0 where
  pub marks_fit : stride * (2 * (2 ^ p - 1)) ≤ marks
  pub counters_fit : span * (2 ^ p - 1) ≤ counters

-- what counting all dual words asks, t being the table of the received word's multiples
pub record Countable (stride span p n duals : ℕ) (terms t v c : List ℕ) : Type 0 where
  pub words : ℕ → ℕ → ℕ
  pub terms_of : TermsOf stride p n duals words terms
  pub multiples : Multiples stride p n t
  pub rooms : Rooms stride span p v c

-- m has a row for each symbol, and the counters c one for each logarithm
pub record Gatherable (span p n : ℕ) (logs c m : List ℕ) : Type 0 where
  pub sizes : Sizes p n
  pub short : n ≤ span
  pub logs_long : 64 ≤ length logs
  pub log_lt : (i : ℕ) → 0 < i → i < 2 ^ p → place logs i + 1 < 2 ^ p
  pub counts_long : span * (2 ^ p - 1) ≤ length c
  pub size : length m ≡ 2 ^ p * n

-- rows 1 to 2 ^ p - 1 of m are the counters' rows of their logarithms
pub record Gathered (span p n : ℕ) (logs c m : List ℕ) : Type 0 where
  pub gathered : (i j : ℕ) → 0 < i → i < 2 ^ p → j < n → place m (i * n + j) ≡ place c (span * place logs i + j)

-- The counters of all dual words: what counting them asks, and what they hold in the end.
-- Assumes nothing.
use Rattle.std.specs.Prelude.{◌≡◌, List, ℕ, ◌+◌, ◌-◌, ◌*◌, ◌%◌, ◌^◌, ◌≤◌, ◌<◌, length}
use Rattle.spec_range.specs.Fold.{total}
use Rattle.spec_field.specs.Symbols.{gf}
use Rattle.spec_word.specs.Word.{at, product}
use Rattle.sizes.specs.Blocks.{span}
use Rattle.word_array.specs.Stored.{place}
use Rattle.matrix_terms.specs.Terms.{term, TermsOf, weight_in}
use Rattle.matrix_scatter.specs.Scatter.{symbol_row, rows_with}

-- counters for every row, all zero
pub record Cleared (p n : ℕ) (counts : List ℕ) : Type 0 where
  pub size : (3 * (2 ^ p - 1) + 1) * (n + 1) ≤ length counts
  pub zero_at : (k : ℕ) → place counts k ≡ 0

-- what counting the dual words asks: the room has the terms of some
pub record Scattering (stride p n duals : ℕ) (terms r counts : List ℕ) : Type 0 where
  pub eights : (n + 1) % 8 ≡ 0
  pub words : ℕ → ℕ → ℕ
  pub terms_of : TermsOf stride p n duals words terms
  pub room : span n ≤ length r + 1
  pub word : (j : ℕ) → j + 1 < span n → place r j < 2 ^ p
  pub cleared : Cleared p n counts

-- how many terms of dual word l, which is b, count in row e of the counters and column j: `row` tells the row of a symbol, f is the received word
unfoldable pub dual_rows : ℕ → ℕ → ℕ → List ℕ → (ℕ → ℕ) → (ℕ → ℕ) → (ℕ → ℕ) → ℕ → ℕ → ℕ → ℕ
dual_rows stride p n terms row f b l e j = rows_with stride p (λ m. row (product (gf p) n b f m)) (weight_in terms) (term n terms l) e j

-- the counters hold what all dual words count
pub record Scattered (stride p n duals : ℕ) (terms r counts : List ℕ) : Type 0 where
  pub counter : (b : ℕ → ℕ → ℕ) → TermsOf stride p n duals b terms → (e j : ℕ) → e < 3 * (2 ^ p - 1) + 1 → j < n + 1
      → place counts (e * (n + 1) + j) ≡ total duals (λ l. dual_rows stride p n terms (symbol_row p terms) (at n r) (b l) l e j)
  pub most : (k : ℕ) → place counts k ≤ 8160

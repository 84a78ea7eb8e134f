-- What each layer of the counting adds to the matrix, at the flat cell k of row k / n and column k % n.
-- Assumes nothing.
use Rattle.std.specs.Prelude.{◌&&◌, List, ℕ, ◌+◌, ◌*◌, ◌/◌, ◌%◌, ◌^◌, eqb, length}
use Rattle.spec_range.specs.Fold.{total, indicator}
use Rattle.spec_range.specs.Table.{table}
use Rattle.spec_field.specs.Symbols.{gf}
use Rattle.spec_field.specs.Symbols as symbols
use Rattle.spec_word.specs.Word.{nonzero, product}
use Rattle.word_array.specs.Stored.{place}

-- the numbers of m with `more k` added to each cell k
unfoldable pub raised : List ℕ → (ℕ → ℕ) → List ℕ
raised m more = table (length m) (λ k. place m k + more k)

-- 1 where place h of a dual word counts in row i and column j: its symbol b there is not zero, and the check value is i. w is the product of the dual
-- word and the received word
unfoldable pub place_counts : ℕ → (ℕ → ℕ) → ℕ → ℕ → ℕ → ℕ → ℕ
place_counts p w b h i j = indicator (nonzero b && eqb (symbols.product p (symbols.inverse p b) (w (j + h))) i)

-- how many places of the dual word b count in row i and column j
unfoldable pub dual_counts : ℕ → ℕ → (ℕ → ℕ) → (ℕ → ℕ) → ℕ → ℕ → ℕ
dual_counts p n b r i j = total n (λ h. place_counts p (product (gf p) n b r) (b h) h i j)

-- the matrix of the word r by the first `duals` of the dual words b
unfoldable pub counted : ℕ → ℕ → (ℕ → ℕ → ℕ) → ℕ → (ℕ → ℕ) → List ℕ
counted p n b duals r = table (2 ^ p * n) (λ k. total duals (λ l. dual_counts p n (b l) r (k / n) (k % n)))

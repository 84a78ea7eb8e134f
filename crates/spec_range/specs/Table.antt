-- The list of a function's values over a range. A list is computed once and read often, where a function is computed at each reading.
-- Assumes nothing.
use Rattle.std.specs.Prelude.{ℕ, zero, suc, cond, List, [], ◌∷◌, ltb}

-- f 0, f 1, .., f (n - 1)
unfoldable pub table : ℕ → (ℕ → ℕ) → List ℕ
table zero f = []
table (suc n) f = f zero ∷ table n (λ i. f (suc i))

-- f 0, .., f (n - 1), and then 0 up to `size` places: an array that holds a shorter word
unfoldable pub padded : ℕ → ℕ → (ℕ → ℕ) → List ℕ
padded size n f = table size (λ j. cond (ltb j n) (f j) 0)

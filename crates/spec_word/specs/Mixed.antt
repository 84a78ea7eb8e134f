-- SCOPE 2.14, 2.15: Words sent mixed, and lists one after another.
-- Assumes nothing.
use Rattle.std.specs.Prelude.{List, [], ◌++◌, ℕ, zero, suc, ◌+◌, ◌*◌, ◌/◌, ◌%◌, get_or}
use Rattle.spec_range.specs.Table.{table}

-- SCOPE 2.14: `count` words of n symbols mixed: place j × count + m holds symbol j of word m
unfoldable pub mixed : ℕ → ℕ → (ℕ → List ℕ) → List ℕ
mixed n count words = table (n * count) (λ k. get_or (words (k % count)) (k / count) 0)

-- SCOPE 2.14: word m of `count` words of n symbols that are mixed in x
unfoldable pub unmixed : ℕ → ℕ → List ℕ → ℕ → List ℕ
unmixed n count x m = table n (λ j. get_or x (j * count + m) 0)

-- SCOPE 2.15: f 0, f 1, .., f (count − 1), one after another
unfoldable pub joined : ℕ → (ℕ → List ℕ) → List ℕ
joined zero f = []
joined (suc count) f = joined count f ++ f count

-- SCOPE 2.15: list m of lists of n entries that stand in x one after another
unfoldable pub part : ℕ → List ℕ → ℕ → List ℕ
part n x m = table n (λ j. get_or x (m * n + j) 0)

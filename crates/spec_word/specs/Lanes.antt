-- SCOPE 2.11: Symbols packed in one number, w digits for each. The digits of one symbol are a lane.
-- Assumes nothing.
use Rattle.std.specs.Prelude.{ℕ, ◌*◌, ◌/◌, ◌%◌, ◌^◌, ◌<◌}
use Rattle.spec_range.specs.Fold.{total}

-- SCOPE 2.11: what lane i of x holds, which is the w digits from digit w * i up
unfoldable pub lane : ℕ → ℕ → ℕ → ℕ
lane w i x = x / 2 ^ (w * i) % 2 ^ w

-- SCOPE 2.11: f 0, .., f (k - 1) packed, the lowest place in the lowest lane
unfoldable pub packed : ℕ → ℕ → (ℕ → ℕ) → ℕ
packed w k f = total k (λ i. f i * 2 ^ (w * i))

-- SCOPE 2.11: none of f 0, .., f (k - 1) has more digits than a lane
abbrev pub Narrow : ℕ → ℕ → (ℕ → ℕ) → Type 0
Narrow w k f = (i : ℕ) → i < k → f i < 2 ^ w

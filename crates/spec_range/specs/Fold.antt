-- A fold of an operation over a range, and what is made of it: a count, a largest value, a test of all and one of any.
-- Assumes nothing.
use Rattle.std.specs.Prelude.{ℕ, zero, suc, ◌+◌, max, Bool, true, not, cond, ◌&&◌}

-- f 0, f 1, .., f (n - 1) joined by `op`; `e` where the range is empty
module _ {A : Type 0} (op : A → A → A) (e : A) where
  unfoldable pub fold : ℕ → (ℕ → A) → A
  fold zero f = e
  fold (suc n) f = op (fold n f) (f n)

-- the sum of f 0, .., f (n - 1) as numbers
abbrev pub total : ℕ → (ℕ → ℕ) → ℕ
total n f = fold ◌+◌ 0 n f

-- 1 where the test passes
abbrev pub indicator : Bool → ℕ
indicator b = cond b 1 0

-- how many i below n pass the test
abbrev pub count : ℕ → (ℕ → Bool) → ℕ
count n p = total n (λ i. indicator (p i))

-- the largest of f 0, .., f (n - 1)
abbrev pub largest : ℕ → (ℕ → ℕ) → ℕ
largest n f = fold max 0 n f

-- every i below n passes the test
abbrev pub all : ℕ → (ℕ → Bool) → Bool
all n p = fold ◌&&◌ true n p

-- some i below n passes the test: not all fail it
abbrev pub any : ℕ → (ℕ → Bool) → Bool
any n p = not (all n (λ i. not (p i)))

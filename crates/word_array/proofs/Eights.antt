-- Places of a list in a row, as they are cut for a call, and the sums of eights that are packed.
-- Assumes nothing.
use mathlib.Core.Path.{◌≡◌, ap, ap₂, ◌∙◌}
use mathlib.Core.List.{List}
use Prim.Native.Nat.{ℕ, ◌+◌, ◌-◌, ◌<◌}
use native.Mathlib.Omega.{arith}
use lib.Bits.{bit_xor}
use lib.ListN.{get_or, take, drop}
use lib.Seq.{get_or-take, get_or-drop}
use Rattle.spec_range.specs.Table.{table}
use Rattle.spec_range.proofs.Table.{table_same}
use Rattle.spec_word.specs.Lanes.{lane, packed, Narrow}
use Rattle.spec_word.proofs.Lanes.{lane-sum}
use Rattle.word_array.specs.Stored.{place}

-- the places from `at` to `end`
abbrev pub part : List ℕ → ℕ → ℕ → List ℕ
part s at end = take (end - at) (drop at s)

pub part_at : (s : List ℕ) (at end k : ℕ) → at + k < end → place (part s at end) k ≡ place s (at + k)
part_at s at end k l = get_or-take (end - at) (drop at s) k 0 (omega arith) ∙ get_or-drop at s k 0

-- the sum of two lists' first places is that of the lists cut there
pub front_sum : (a b : List ℕ) (m : ℕ) {size : ℕ} {v : List ℕ} → size ≡ m → v ≡ table size (λ j. bit_xor (place (part a 0 m) j) (place (part b 0 m) j))
    → v ≡ table m (λ j. bit_xor (place a j) (place b j))
front_sum a b m same e =
    e ∙ ap (λ (k : ℕ). table k (λ j. bit_xor (place (part a 0 m) j) (place (part b 0 m) j))) same
    ∙ table_same m (λ k l. ap₂ bit_xor (part_at a 0 m k (omega arith) ∙ ap (place a) (omega arith)) (part_at b 0 m k (omega arith) ∙ ap (place b) (omega arith)))

-- what a number holds that packs them
abbrev pub Packs : ℕ → List ℕ → Type 0
Packs x e = (x ≡ packed 8 8 (λ k. get_or e k 0)) × Narrow 8 8 (λ k. get_or e k 0)

-- the lanes of the sum are the sums, place by place
pub part-sum : (a b : List ℕ) (at : ℕ) {x y : ℕ} → Packs x (part a at (at + 8)) → Packs y (part b at (at + 8)) → (k : ℕ) → k < 8
    → lane 8 k (bit_xor x y) ≡ bit_xor (place a (at + k)) (place b (at + k))
part-sum a b at p q k l =
    lane-sum 8 8 p.0 p.1 q.0 q.1 k l ∙ ap₂ bit_xor (part_at a at (at + 8) k (omega arith)) (part_at b at (at + 8) k (omega arith))

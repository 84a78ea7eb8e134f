-- The row of each symbol, and where it starts.
-- Assumes nothing.
use mathlib.Core.Path.{◌≡◌, refl, sym, ap, ◌∙◌}
use mathlib.Core.Bool.{Bool, not, cond}
use mathlib.Core.List.{List}
use Prim.Native.Nat.{ℕ, zero, suc, ◌+◌, ◌-◌, ◌*◌, ◌^◌, ◌≤◌, ◌<◌}
use native.Mathlib.Nat.{le_trans, mul_assoc, mul-le-mul_left, mul-le-mul_right, ne_of_gt}
use native.Mathlib.Omega.{arith}
use borrow.Author.Tests.{ne_eqb}
use lib.ListN.{set, replicate}
use Rattle.spec_range.proofs.Loop.{Held, held_none, held_more}
use Rattle.sizes.specs.Blocks.{blocks}
use Rattle.sizes.proofs.Lengths.{blocks_fit}
use Rattle.word_array.specs.Stored.{place, Sizes}
use Rattle.matrix_scatter.specs.Scatter.{Logged, symbol_row, RowStarts}

-- the row of 0
pub row_zero : (p : ℕ) (logs : List ℕ) → symbol_row p logs 0 ≡ 2 * (2 ^ p - 1)
unfolding symbol_row
row_zero p logs = refl

-- the row of another symbol
pub row_log : (p : ℕ) (logs : List ℕ) (c : ℕ) → 0 < c → symbol_row p logs c ≡ place logs c
unfolding symbol_row
row_log p logs c h = ap (λ (t : Bool). cond (not t) (place logs c) (2 * (2 ^ p - 1))) (ne_eqb c 0 (ne_of_gt h))

-- no row is above that of 0
pub row_le : {p : ℕ} {logs : List ℕ} → Logged p logs → (c : ℕ) → c < 2 ^ p → symbol_row p logs c ≤ 2 * (2 ^ p - 1)
row_le {p} {logs} h zero l = omega (arith, row_zero p logs)
row_le {p} {logs} h (suc c) l = omega (arith, row_log p logs (suc c) (omega arith), h.log_lt (suc c) (omega arith) l)

-- where the row of a symbol starts
abbrev pub start_of : ℕ → ℕ → List ℕ → ℕ → ℕ
start_of p n logs c = symbol_row p logs c * (n + 1)

-- the longer a word, the fewer its rows: c rows for each symbol have at most 4096 * c places
pub width_le : {p n : ℕ} → Sizes p n → (c : ℕ) {a : ℕ} → a ≤ c * 2 ^ p → a * (n + 1) ≤ c * 4096
width_le {p} {n} s c l =
    let b : n + 1 ≤ 64 * blocks n = omega (arith, blocks_fit s.n_high) in
    let d : 2 ^ p * (n + 1) ≤ 4096 = omega (arith, mul-le-mul_left (2 ^ p) b, s.together) in
    le_trans (mul-le-mul_right (n + 1) l) (rw mul_assoc (mul-le-mul_left c d))

-- it fits
pub start_le : {p n : ℕ} {logs : List ℕ} → Sizes p n → Logged p logs → (c : ℕ) → c < 2 ^ p → start_of p n logs c ≤ 8192
start_le s h c l = width_le s 2 (omega (arith, row_le h c l))

-- so does that of 0
pub first_le : {p n : ℕ} → Sizes p n → (q : ℕ) → q ≡ 2 ^ p → 2 * (q - 1) * (n + 1) ≤ 8192
first_le s q e = width_le s 2 {a = 2 * (q - 1)} (omega arith)

-- the start of 0 is written
pub starts_first : (p n : ℕ) {q : ℕ} (logs : List ℕ) → q ≡ 2 ^ p → Held 64 1 (start_of p n logs) (set (replicate 64 0) 0 (2 * (q - 1) * (n + 1)))
starts_first p n logs e =
    held_more _ (omega arith) (ap (λ (q : ℕ). 2 * (q - 1) * (n + 1)) e ∙ ap (λ (x : ℕ). x * (n + 1)) (sym (row_zero p logs))) (held_none 64 (start_of p n logs))

-- the start of another
pub log_start : (p n : ℕ) (logs : List ℕ) (c : ℕ) → 0 < c → place logs c * (n + 1) ≡ start_of p n logs c
log_start p n logs c l = ap (λ (x : ℕ). x * (n + 1)) (sym (row_log p logs c l))

-- all starts are written
pub starts_end : {p n c : ℕ} {logs out : List ℕ} → Held 64 c (start_of p n logs) out → 2 ^ p ≤ c → RowStarts p n logs out
starts_end h l = record { start = λ d b. h.at d (omega arith) }

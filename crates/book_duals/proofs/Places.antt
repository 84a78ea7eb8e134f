-- The dual words as functions of their places, and where they lie in the bytes.
-- Assumes nothing.
use mathlib.Core.Path.{◌≡◌, ap}
use mathlib.Core.List.{List}
use Prim.Native.Nat.{ℕ, ◌+◌, ◌%◌, ◌≤◌, ◌<◌}
use native.Mathlib.Nat.{mod-eq_of_lt, add-mod_right}
use native.Mathlib.Omega.{arith}
use lib.ListN.{length}
use Rattle.spec_word.proofs.Product.{Periodic}
use Rattle.word_array.specs.Stored.{place}
use Rattle.spec_book.specs.Layout.{width, dual_at, body_place}
use Rattle.spec_book.proofs.Accepting.{dual_apart}
use Rattle.book_duals.specs.Duals.{dual_word}

-- its period is n
pub dual_period : (n : ℕ) (bytes : List ℕ) (l : ℕ) → Periodic n (dual_word n bytes l)
unfolding dual_word
dual_period n bytes l j = ap (body_place bytes (dual_at (width bytes) l)) (add-mod_right j n)

-- the record of a dual word is in the bytes
pub dual_room : (bytes : List ℕ) {l duals : ℕ} → dual_at (width bytes) duals ≤ length bytes → l < duals → dual_at (width bytes) l + (1 + width bytes) ≤ length bytes
dual_room bytes h b = omega (arith, dual_apart (width bytes) b)

-- the same where it starts at `start`
pub dual_fits : (bytes : List ℕ) {l duals start : ℕ} → dual_at (width bytes) duals ≤ length bytes → l < duals → start ≡ dual_at (width bytes) l
    → start + (1 + width bytes) ≤ length bytes
dual_fits bytes h b e = omega (arith, dual_room bytes h b)

-- a place below n, where the word starts at `start`
pub dual_at_lem : {n start : ℕ} (bytes : List ℕ) (l : ℕ) → start ≡ dual_at (width bytes) l + 1 → (j : ℕ) → j < n → place bytes (start + j) ≡ dual_word n bytes l j
unfolding dual_word
dual_at_lem {n} bytes l e j k = let m : j % n ≡ j = mod-eq_of_lt k in ap (place bytes) (omega arith)

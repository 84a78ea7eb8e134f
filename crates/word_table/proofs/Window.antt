-- A window that a loop writes over, place by place or block by block.
-- Assumes nothing.
use mathlib.Core.Path.{◌≡◌, refl, sym, ap, ◌∙◌, subst}
use mathlib.Core.Bool.{Bool, cond}
use mathlib.Core.Logic.{⊎_elim}
use mathlib.Core.List.{List}
use Prim.Native.Nat.{ℕ, ◌+◌, ◌-◌, ◌≤◌, ◌<◌}
use native.Mathlib.Nat.{not-suc-le-zero, eq-or-lt_of_le, le_of_suc-le-suc}
use native.Mathlib.Numerals.{add-one}
use native.Mathlib.Decide.{dec_lt}
use native.Mathlib.Omega.{arith}
use borrow.Author.Tests.{lt-ltb, le-ltb}
use lib.Dec.{ltb}
use lib.ListN.{length, set, length-set}
use lib.Seq.{get_or-set_same, get_or-set_other}
use Rattle.spec_range.specs.Table.{table, padded}
use Rattle.spec_range.proofs.Table.{table_at}
use Rattle.spec_range.proofs.Loop.{Held, held_padded, padded_whole, Over}
use Rattle.word_array.specs.Stored.{place}
use Rattle.word_table.specs.Window.{Window}

pub window_none : (from : ℕ) (f : ℕ → ℕ) (w : List ℕ) → Window from 0 f w w
window_none from f w = record { long = refl; at = λ k l. absurd (not-suc-le-zero l); low = λ k l. refl; high = λ k l. refl }

pub window_more : {from n : ℕ} {f : ℕ → ℕ} {w₀ w : List ℕ} (v : ℕ) → from + n < length w → v ≡ f n → Window from n f w₀ w
    → Window from (n + 1) f w₀ (set w (from + n) v)
window_more {from} {n} {f} {w₀} {w} v l e h =
    record {
      long = length-set w (from + n) v ∙ h.long;
      at = λ k b. ⊎_elim
          (λ q. subst (λ (m : ℕ). place (set w (from + n) v) (from + m) ≡ f m) (sym q) (get_or-set_same w (from + n) v 0 l ∙ e))
          (λ b. get_or-set_other w (from + n) (from + k) v 0 (omega arith) ∙ h.at k b)
          (eq-or-lt_of_le (le_of_suc-le-suc (subst (λ (m : ℕ). k < m) (add-one n) b)));
      low = λ k b. get_or-set_other w (from + n) k v 0 (omega arith) ∙ h.low k b;
      high = λ k b. get_or-set_other w (from + n) k v 0 (omega arith) ∙ h.high k (omega arith);
    }

-- a window, and one that is written from its end on
pub window_join : {from to a b c : ℕ} {f g h : ℕ → ℕ} {w₀ w w' : List ℕ} → to ≡ from + a → c ≡ a + b → ((k : ℕ) → k < a → g k ≡ f k)
    → ((k : ℕ) → k < b → h k ≡ f (a + k)) → Window from a g w₀ w → Window to b h w w' → Window from c f w₀ w'
window_join {from} {a = a} {c = c} {f} {w' = w'} e s first second one two =
    record {
      long = two.long ∙ one.long;
      at = λ k l. at k l (dec_lt k a);
      low = λ k l. two.low k (omega arith) ∙ one.low k l;
      high = λ k l. two.high k (omega arith) ∙ one.high k (omega arith);
    }
  where
    at : (k : ℕ) → k < c → Dec (k < a) → place w' (from + k) ≡ f k
    at k l (yes d) = two.low (from + k) (omega arith) ∙ one.at k d ∙ first k d
    at k l (no d) = ap (place w') (omega arith) ∙ two.at (k - a) (omega arith) ∙ second (k - a) (omega arith) ∙ ap f (omega arith)

-- a window that starts a list
pub window_at : {n : ℕ} {f : ℕ → ℕ} {w₀ w : List ℕ} → Window 0 n f w₀ w → (k : ℕ) → k < n → place w k ≡ f k
window_at {w = w} h k l = ap (place w) (omega arith) ∙ h.at k l

-- a list written over from the front
pub over_window : {n : ℕ} {f : ℕ → ℕ} {w₀ w : List ℕ} → Over n f w₀ w → Window 0 n f w₀ w
over_window {w = w} h =
    record {
      long = h.long;
      at = λ k l. ap (place w) (omega arith) ∙ h.at k l;
      low = λ k l. absurd (not-suc-le-zero l);
      high = λ k l. h.rest k (omega arith);
    }

-- ---- lists of a function's values

pub held_table : {size n : ℕ} {f : ℕ → ℕ} {w : List ℕ} → size ≤ n → Held size n f w → w ≡ table size f
held_table {size} {n} {f} l h = held_padded h ∙ padded_whole size n f (λ k a b. absurd (omega arith))

pub read_table : {n : ℕ} {w : List ℕ} (f : ℕ → ℕ) → w ≡ table n f → {k : ℕ} → k < n → place w k ≡ f k
read_table {n} f e {k} l = ap (λ (v : List ℕ). place v k) e ∙ table_at n f l

-- f below n, and 0 from there on
pub cut : ℕ → (ℕ → ℕ) → ℕ → ℕ
cut n f k = cond (ltb k n) (f k) 0

pub cut_low : (n : ℕ) (f : ℕ → ℕ) {k : ℕ} → k < n → cut n f k ≡ f k
unfolding cut
cut_low n f {k} l = ap (λ (b : Bool). cond b (f k) 0) (lt-ltb k n l)

pub cut_high : (n : ℕ) (f : ℕ → ℕ) {k : ℕ} → n ≤ k → cut n f k ≡ 0
unfolding cut
cut_high n f {k} l = ap (λ (b : Bool). cond b (f k) 0) (le-ltb k n l)

pub padded_cut : (size n : ℕ) (f : ℕ → ℕ) → padded size n f ≡ table size (cut n f)
unfolding padded cut
padded_cut size n f = refl

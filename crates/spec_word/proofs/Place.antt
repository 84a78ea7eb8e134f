-- Places modulo n: words read as functions of period n, and lists of n symbols.
-- Assumes nothing.
use mathlib.Core.Path.{◌≡◌, sym, ap, ◌∙◌, subst}
use mathlib.Core.List.{List}
use Prim.Native.Nat.{ℕ, zero, suc, pred, ◌+◌, ◌-◌, ◌*◌, ◌/◌, ◌%◌, ◌<◌}
use native.Mathlib.Nat.{mod-lt, mod-mod, mod-add-mod, mod-add-div', mod-eq_of_lt, add-mod_right, add-mul-mod_self_right, zero-mul, suc-mul, mul-suc, suc-pred-eq_of_pos}
use native.Mathlib.Omega.{arith}
use lib.Arith.{digits_mod}
use lib.ListN.{get_or, length}
use Rattle.spec_range.specs.Table.{table}
use Rattle.spec_range.proofs.Table.{table_at, table-length}
use Rattle.spec_field.specs.Field.{FieldOps, FieldLaws}
use Rattle.spec_word.specs.Word.{at, turn, scale, plus}
use Rattle.spec_word.proofs.Sums.{Symbols}

-- w is a word of n symbols, read as a function of its places
pub record Word (F : FieldOps) (n : ℕ) (w : ℕ → ℕ) : Type 0 where
  pub symbol : Symbols F w
  pub period : (j : ℕ) → w (j + n) ≡ w j

-- a list of n symbols
pub record SymbolList (F : FieldOps) (n : ℕ) (w : List ℕ) : Type 0 where
  pub exact : length w ≡ n
  pub symbols : Symbols F (at n w)

-- n - 1 times u takes u away, modulo n
pub multiple : (n u : ℕ) → 0 < n → u * pred n + u ≡ u * n
multiple n u pos = sym (mul-suc u (pred n)) ∙ ap (u *◌) (suc-pred-eq_of_pos pos)

-- ---- a function of period n

module _ (n : ℕ) (f : ℕ → ℕ) (period : (j : ℕ) → f (j + n) ≡ f j) where
  pub period_times : (k j : ℕ) → f (j + k * n) ≡ f j
  period_times zero j = ap f (omega (arith, zero-mul n))
  period_times (suc k) j = ap f (omega (arith, suc-mul k n)) ∙ period (j + k * n) ∙ period_times k j

  pub period_mod : (j : ℕ) → f (j % n) ≡ f j
  period_mod j = sym (period_times (j / n) (j % n)) ∙ ap f (mod-add-div' j n)

  -- a turn by t after n - 1 of them
  pub period_back : 0 < n → (t j : ℕ) → f (j + t * pred n + t) ≡ f j
  period_back pos t j = ap f (omega (arith, multiple n t pos)) ∙ period_times t j

-- ---- places

-- to take u from m, modulo n, twice
pub reflect_reflect : (n m u : ℕ) → u < n → (m + (n - (m + (n - u)) % n)) % n ≡ u
reflect_reflect n m u h = ap (λ (x : ℕ). x % n) back ∙ digits_mod ((m + (n - u)) / n) h
  where
    back : m + (n - (m + (n - u)) % n) ≡ (m + (n - u)) / n * n + u
    back = omega (arith, mod-add-div' (m + (n - u)) n, mod-lt (m + (n - u)) {m = n} (omega arith))

-- a turn by t and one by the rest of n
full_turn : (n t j : ℕ) → 0 < n → (j + t + (n - t % n)) % n ≡ j % n
full_turn n t j pos =
    ap (λ (x : ℕ). x % n) (omega (arith, mod-add-div' t n, mod-lt t pos)) ∙ add-mul-mod_self_right j (suc (t / n)) n

pub turn_back : (n t j : ℕ) → 0 < n → ((j + t) % n + (n - t % n)) % n ≡ j % n
turn_back n t j pos = mod-add-mod (j + t) n (n - t % n) ∙ full_turn n t j pos

pub turn_on : (n t j : ℕ) → 0 < n → ((j + (n - t % n)) % n + t) % n ≡ j % n
turn_on n t j pos = mod-add-mod (j + (n - t % n)) n t ∙ ap (λ (x : ℕ). x % n) (omega arith) ∙ full_turn n t j pos

-- ---- a list read by its places

pub at_same : (n : ℕ) (w : List ℕ) (i j : ℕ) → i % n ≡ j % n → at n w i ≡ at n w j
unfolding at
at_same n w i j e = ap (λ (x : ℕ). get_or w x 0) e

pub at_period : (n : ℕ) (w : List ℕ) (j : ℕ) → at n w (j + n) ≡ at n w j
at_period n w j = at_same n w (j + n) j (add-mod_right j n)

pub at_mod : (n : ℕ) (w : List ℕ) (j : ℕ) → at n w (j % n) ≡ at n w j
at_mod n w j = at_same n w (j % n) j (mod-mod j n)

pub at_lt : (n : ℕ) (w : List ℕ) {j : ℕ} → j < n → at n w j ≡ get_or w j 0
unfolding at
at_lt n w l = ap (λ (x : ℕ). get_or w x 0) (mod-eq_of_lt l)

pub at_table : (n : ℕ) (f : ℕ → ℕ) {j : ℕ} → j < n → at n (table n f) j ≡ f j
at_table n f l = at_lt n (table n f) l ∙ table_at n f l

pub at-plus : (F : FieldOps) (n : ℕ) (w v : List ℕ) {j : ℕ} → j < n → at n (plus F n w v) j ≡ F.add (at n w j) (at n v j)
unfolding plus
at-plus F n w v l = at_table n (λ k. F.add (at n w k) (at n v k)) l

-- turned by t and multiplied by c
pub at_scaled_turn : (F : FieldOps) (n c t : ℕ) (w : List ℕ) → 0 < n → (j : ℕ) → at n (scale F n c (turn n t w)) ((j + t) % n) ≡ F.mul c (at n w j)
unfolding scale turn
at_scaled_turn F n c t w pos j =
    at_table n (λ k. F.mul c (at n (turn n t w) k)) (mod-lt (j + t) pos)
    ∙ ap (F.mul c)
    (at_table n (λ k. at n w (k + (n - t % n))) (mod-lt (j + t) pos) ∙ at_same n w ((j + t) % n + (n - t % n)) j (turn_back n t j pos))

pub list_word : {F : FieldOps} {n : ℕ} {w : List ℕ} → SymbolList F n w → Word F n (at n w)
list_word {n = n} {w = w} h = record { symbol = h.symbols; period = at_period n w }

pub table_symbols : (F : FieldOps) (n : ℕ) (f : ℕ → ℕ) → 0 < n → ((j : ℕ) → j < n → f j < F.q) → SymbolList F n (table n f)
unfolding at
table_symbols F n f pos h =
    record {
      exact = table-length n f;
      symbols = λ j. subst (λ (x : ℕ). x < F.q) (sym (table_at n f (mod-lt j pos))) (h (j % n) (mod-lt j pos));
    }

pub scaled_symbols : (F : FieldOps) → FieldLaws F → (n c : ℕ) (w : List ℕ) → 0 < n → SymbolList F n (scale F n c w)
unfolding scale
scaled_symbols F laws n c w pos = table_symbols F n _ pos (λ j l. laws.mul_below c (at n w j))

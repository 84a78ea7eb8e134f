-- Two counters, 2 ^ p - 1 rows apart, hold what a dual word counts of a symbol.
-- Assumes nothing.
use mathlib.Core.Path.{◌≡◌, refl, sym, ap, ap₂, ◌∙◌}
use mathlib.Core.Bool.{Bool, true, false, cond, ◌&&◌, ◌||◌}
use mathlib.Core.List.{List}
use Prim.Native.Nat.{ℕ, ◌+◌, ◌-◌, ◌*◌, ◌^◌, ◌≤◌, ◌<◌}
use native.Mathlib.Nat.{add-zero, add_comm, ne_of_lt}
use native.Mathlib.Decide.{ℕ_discrete}
use native.Mathlib.Omega.{arith}
use borrow.Author.Tests.{ne_eqb}
use lib.Dec.{T, eqb, eqb→eq}
use Rattle.spec_range.specs.Fold.{indicator}
use Rattle.spec_range.proofs.Fold.{fold_cong, fold-op, sums}
use Rattle.spec_field.specs.Symbols.{gf}
use Rattle.spec_field.specs.Symbols as symbols
use Rattle.spec_field.proofs.Gf.{product_zero}
use Rattle.spec_word.specs.Word.{nonzero, product}
use Rattle.word_array.specs.Stored.{place, Sizes}
use Rattle.field_powers.specs.Powers.{PowersOf}
use Rattle.field_powers.proofs.Laws.{scattered}
use Rattle.matrix_terms.specs.Count.{place_counts, dual_counts}
use Rattle.matrix_terms.specs.Terms.{Turns}
use Rattle.matrix_terms.proofs.Digits.{log_of, place_of}
use Rattle.matrix_scatter.specs.Scatter.{symbol_row, rows_with}
use Rattle.matrix_scatter.proofs.Rows.{row_zero, row_log}

-- one of two numbers that differ
either : (x a b : ℕ) → (a ≡ b → ⊥) → indicator (eqb x a || eqb x b) ≡ indicator (eqb x a) + indicator (eqb x b)
either x a b h = go (eqb x a) (eqb x b) (λ s t. h (sym (eqb→eq x a s) ∙ eqb→eq x b t))
  where
    go : (s t : Bool) → (T s → T t → ⊥) → indicator (s || t) ≡ indicator s + indicator t
    go true true f = absurd (f tt tt)
    go true false f = refl
    go false true f = refl
    go false false f = refl

-- what counts only where a test holds
guarded : (t u : Bool) → cond t (indicator u) 0 ≡ indicator (t && u)
guarded true u = refl
guarded false u = refl

module _ {p n : ℕ} {logs : List ℕ} (s : Sizes p n) (x : PowersOf p logs) where
  -- the symbol v divided by c is i
  divided : (c v i : ℕ) → 0 < c → c < 2 ^ p → v < 2 ^ p → 0 < i → i < 2 ^ p
      → let row = symbol_row p logs v + (2 ^ p - 1 - place logs c) in
      indicator (eqb row (place logs i)) + indicator (eqb row (place logs i + (2 ^ p - 1))) ≡ indicator (eqb (symbols.product p (symbols.inverse p c) v) i)
  divided c v i c_pos c_lt v-lt i-pos i_lt = go (ℕ_discrete v 0)
    where
      go : Dec (v ≡ 0)
          → indicator (eqb (symbol_row p logs v + (2 ^ p - 1 - place logs c)) (place logs i))
          + indicator (eqb (symbol_row p logs v + (2 ^ p - 1 - place logs c)) (place logs i + (2 ^ p - 1)))
          ≡ indicator (eqb (symbols.product p (symbols.inverse p c) v) i)
      go (yes z) =
          let r : symbol_row p logs v ≡ 2 * (2 ^ p - 1) = ap (symbol_row p logs) z ∙ row_zero p logs in
          let a = x.log_lt c c_pos c_lt in
          let b = x.log_lt i i-pos i_lt in
          ap₂ (λ (s t : Bool). indicator s + indicator t)
          (ne_eqb (symbol_row p logs v + (2 ^ p - 1 - place logs c)) (place logs i) (λ q. omega arith))
          (ne_eqb (symbol_row p logs v + (2 ^ p - 1 - place logs c)) (place logs i + (2 ^ p - 1)) (λ q. omega arith))
          ∙ sym (ap indicator
          (ap (λ (y : ℕ). eqb y i) (ap (symbols.product p (symbols.inverse p c)) z ∙ product_zero p s.p_low s.p_high _) ∙ ne_eqb 0 i (ne_of_lt i-pos)))
      go (no z) =
          let a = x.log_lt c c_pos c_lt in
          let b = x.log_lt i i-pos i_lt in
          let d = x.log_lt v (omega arith) v-lt in
          ap (λ (y : ℕ). indicator (eqb (y + (2 ^ p - 1 - place logs c)) (place logs i))
          + indicator (eqb (y + (2 ^ p - 1 - place logs c)) (place logs i + (2 ^ p - 1))))
          (row_log p logs v (omega arith))
          ∙ sym (either (place logs v + (2 ^ p - 1 - place logs c)) (place logs i) (place logs i + (2 ^ p - 1)) (λ q. omega arith))
          ∙ sym (ap indicator
          (ap (eqb (symbols.product p (symbols.inverse p c) v)) (sym (x.log_is i i-pos i_lt))
          ∙ scattered p s.p_low s.p_high c v (place logs c) (place logs v) (place logs i) (omega arith) (omega arith) (omega arith)
          (x.log_is c c_pos c_lt) (x.log_is v (omega arith) v-lt)))

  -- of all terms of a dual word
  pub both_rows_lem : {stride : ℕ} {b : ℕ → ℕ} (r : ℕ → ℕ) {weight : ℕ} {turns : ℕ → ℕ} → n + n ≤ stride → Turns stride n b logs weight turns
      → ((j : ℕ) → b j < 2 ^ p) → ((m : ℕ) → product (gf p) n b r m < 2 ^ p)
      → (i j : ℕ) → 0 < i → i < 2 ^ p
      → rows_with stride p (λ m. symbol_row p logs (product (gf p) n b r m)) weight turns (place logs i) j
      + rows_with stride p (λ m. symbol_row p logs (product (gf p) n b r m)) weight turns (place logs i + (2 ^ p - 1)) j
      ≡ dual_counts p n b r i j
  unfolding rows_with dual_counts place_counts
  both_rows_lem {b = b} r {weight} {turns} fits h b_lt w-lt i j i-pos i_lt =
      sym (fold-op ◌+◌ 0 sums weight _ _)
      ∙ fold_cong ◌+◌ 0 weight (λ k l.
      ap₂ (λ (y z : ℕ). indicator (eqb (symbol_row p logs (product (gf p) n b r (y + j)) + (2 ^ p - 1 - z)) (place logs i))
      + indicator (eqb (symbol_row p logs (product (gf p) n b r (y + j)) + (2 ^ p - 1 - z)) (place logs i + (2 ^ p - 1))))
      (place_of fits h k l) (log_of fits h k l)
      ∙ divided (b (h.places.place_at k)) (product (gf p) n b r (h.places.place_at k + j)) i (h.places.symbol_pos k l) (b_lt _) (w-lt _) i-pos i_lt
      ∙ ap (λ (m : ℕ). indicator (eqb (symbols.product p (symbols.inverse p (b (h.places.place_at k))) (product (gf p) n b r m)) i))
      (add_comm (h.places.place_at k) j))
      ∙ h.places.folds ◌+◌ 0 add-zero (λ u. indicator (eqb (symbols.product p (symbols.inverse p (b u)) (product (gf p) n b r (j + u))) i))
      ∙ fold_cong ◌+◌ 0 n (λ u _. guarded (nonzero (b u)) _)

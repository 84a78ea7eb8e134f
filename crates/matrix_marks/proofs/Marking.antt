-- Rows of marks as loops make and read them.
-- Assumes nothing.
use mathlib.Core.Path.{◌≡◌, refl, sym, ap, ap₂, ◌∙◌, subst}
use mathlib.Core.Bool.{Bool, true, false}
use mathlib.Core.Logic.{⊎_elim}
use mathlib.Core.List.{List}
use Prim.Native.Nat.{ℕ, ◌+◌, ◌-◌, ◌*◌, ◌≤◌, ◌<◌, zero-le}
use native.Mathlib.Nat.{le_trans, le_of_eq, not-suc-le-zero, mod-eq_of_lt, mod-eq-sub-mod, eq-or-lt_of_le, le_of_suc-le-suc, lt_irrefl}
use native.Mathlib.Decide.{dec_lt}
use native.Mathlib.Numerals.{add-one}
use native.Mathlib.Omega.{arith}
use lib.Dec.{eqb}
use lib.ListN.{length, replicate}
use mir.Syntax.{w8, w16}
use mir.Val.{bool_byte, Fits}
use Rattle.spec_range.specs.Fold.{indicator}
use Rattle.spec_range.specs.Table.{table}
use Rattle.spec_range.proofs.Table.{table-length, table_at, table_same}
use Rattle.spec_range.proofs.Fold.{fold_cong}
use Rattle.spec_range.proofs.Count.{fold_le}
use Rattle.spec_range.proofs.Loop.{fold_none, fold_step, padded_whole}
use Rattle.spec_word.specs.Word.{at}
use Rattle.word_array.specs.Stored.{place}
use Rattle.word_array.proofs.Filled.{zero_padded}
use Rattle.word_table.specs.Window.{Window}
use Rattle.word_table.proofs.Window.{window_join, read_table}
use Rattle.word_table.proofs.Rows.{rows_apart}
use Rattle.matrix_marks.specs.Marks.{Markable, Marked, Addable, marks_of, Summable}

-- a test's byte
pub byte : (b : Bool) → bool_byte b ≡ indicator b
byte true = refl
byte false = refl

-- a mark is at most 1
indicator_le : (b : Bool) → indicator b ≤ 1
indicator_le true = omega arith
indicator_le false = omega arith

-- ---- the rows of marks one after another

-- the rows below e are marked, of as many as v₀ has
pub record Marking (stride span n rows : ℕ) (symbols : ℕ → ℕ) (w v₀ v : List ℕ) (e : ℕ) : Type 0 where
  pub within : e ≤ rows
  pub long : length v ≡ length v₀
  pub mark_at : (i j : ℕ) → i < e → j < n + n → place v (stride * i + j) ≡ indicator (eqb (at n w j) (symbols i))
  pub mark_le : (i j : ℕ) → i < e → j < n + span → place v (stride * i + j) ≤ 1

-- no row is marked
pub marking_none : (stride span n rows : ℕ) (symbols : ℕ → ℕ) (w v : List ℕ) → Marking stride span n rows symbols w v v 0
marking_none stride span n rows symbols w v =
    record { within = zero-le; long = refl; mark_at = λ i j l. absurd (not-suc-le-zero l); mark_le = λ i j l. absurd (not-suc-le-zero l) }

module _ {stride span n rows : ℕ} {symbols : ℕ → ℕ} {w v₀ v : List ℕ} {e : ℕ} (h : Marking stride span n rows symbols w v₀ v e) where
  -- row e lies within v
  pub row_within : {terms : List ℕ} → Markable stride span n rows terms w v₀ → e < rows → stride * e + stride ≤ length v
  row_within ok l = omega (arith, rows_apart stride l, ok.long, h.long)

  -- one more row: the word's marks, and the same once more after its n places
  module _ {terms : List ℕ} (ok : Markable stride span n rows terms w v₀) {v₁ v₂ : List ℕ}
      (first : Window (stride * e) span (λ j. indicator (eqb (place w j) (symbols e))) v v₁)
      (second : Window (stride * e + n) span (λ j. indicator (eqb (place w j) (symbols e))) v₁ v₂) where
    -- the mark of a place of the word
    mark : ℕ → ℕ
    mark k = indicator (eqb (place w k) (symbols e))

    -- the two copies
    once : (j : ℕ) → j < n → place v₂ (stride * e + j) ≡ mark j
    unfolding mark
    once j d = second.low (stride * e + j) (omega arith) ∙ first.at j (omega (arith, ok.short))

    again : (j : ℕ) → n ≤ j → j < n + span → place v₂ (stride * e + j) ≡ mark (j - n)
    unfolding mark
    again j a b = ap (place v₂) (omega arith) ∙ second.at (j - n) (omega arith)

    new-at : (j : ℕ) → j < n + n → Dec (j < n) → place v₂ (stride * e + j) ≡ indicator (eqb (at n w j) (symbols e))
    unfolding at mark
    new-at j l (yes d) = once j d ∙ ap mark (sym (mod-eq_of_lt d))
    new-at j l (no d) =
        let k : j - n < n = omega arith in
        again j (omega arith) (omega (arith, ok.short)) ∙ ap mark (sym (mod-eq-sub-mod {n = j} {m = n} (omega arith) ∙ mod-eq_of_lt k))

    new-le : (j : ℕ) → j < n + span → Dec (j < n) → place v₂ (stride * e + j) ≤ 1
    unfolding mark
    new-le j l (yes d) = le_trans (le_of_eq (once j d)) (indicator_le (eqb (place w j) (symbols e)))
    new-le j l (no d) = le_trans (le_of_eq (again j (omega arith) l)) (indicator_le (eqb (place w (j - n)) (symbols e)))

    -- the rows before it
    kept : (i j : ℕ) → i < e → j < stride → place v₂ (stride * i + j) ≡ place v (stride * i + j)
    kept i j l d =
        let apart = rows_apart stride l in
        second.low (stride * i + j) (omega arith) ∙ first.low (stride * i + j) (omega arith)

    pub marking-more : e < rows → Marking stride span n rows symbols w v₀ v₂ (e + 1)
    marking-more l =
        record {
          within = omega arith;
          long = second.long ∙ first.long ∙ h.long;
          mark_at = λ i j b s. ⊎_elim
              (λ q. subst (λ (i : ℕ). place v₂ (stride * i + j) ≡ indicator (eqb (at n w j) (symbols i))) (sym q) (new-at j s (dec_lt j n)))
              (λ b. kept i j b (omega (arith, ok.short, ok.fits)) ∙ h.mark_at i j b s)
              (eq-or-lt_of_le (le_of_suc-le-suc (subst (λ (m : ℕ). i < m) (add-one e) b)));
          mark_le = λ i j b s. ⊎_elim
              (λ q. subst (λ (i : ℕ). place v₂ (stride * i + j) ≤ 1) (sym q) (new-le j s (dec_lt j n)))
              (λ b. subst (λ (x : ℕ). x ≤ 1) (sym (kept i j b (omega (arith, ok.fits)))) (h.mark_le i j b s))
              (eq-or-lt_of_le (le_of_suc-le-suc (subst (λ (m : ℕ). i < m) (add-one e) b)));
        }

  -- all rows
  pub marking_end : stride * rows ≤ length v₀ → rows ≤ e → Marked stride span n rows symbols w v
  marking_end size l =
      record {
        long = omega (arith, h.long);
        mark_at = λ i j b s. h.mark_at i j (omega arith) s;
        mark_le = λ i j b s. h.mark_le i j (omega arith) s;
      }

-- ---- a row of counters: the marks of one term after another

-- the first i terms are added
pub record Summing (span : ℕ) (v : List ℕ) (start : ℕ) (terms : List ℕ) (from weight i : ℕ) (row : List ℕ) : Type 0 where
  pub within : i ≤ weight
  pub summed : row ≡ table span (marks_of v start terms from i)

-- no term is added
pub summing_none : (span : ℕ) (v : List ℕ) (start : ℕ) (terms : List ℕ) (from weight : ℕ) → Summing span v start terms from weight 0 (replicate span 0)
summing_none span v start terms from weight =
    record {
      within = zero-le;
      summed = zero_padded span span _ (λ j l. fold_none ◌+◌ 0 _) ∙ padded_whole span span _ (λ j l d. absurd (lt_irrefl j (omega arith)));
    }

module _ {span : ℕ} {v : List ℕ} {start : ℕ} {terms : List ℕ} {from weight i : ℕ} {row : List ℕ} (h : Summing span v start terms from weight i row) where
  summing-at : {j : ℕ} → j < span → place row j ≡ marks_of v start terms from i j
  summing-at {j} l = ap (λ (r : List ℕ). place r j) h.summed ∙ table_at span _ l

  -- the next term can be added
  pub summing_addable : Summable span v start terms from weight → i < weight → Addable span v (start + place terms (from + i)) row
  summing_addable ok l =
      record {
        within = ok.within i l;
        long = ap length h.summed ∙ table-length span _;
        fits = λ j d.
            let b : marks_of v start terms from i j ≤ i * 1 = fold_le i 1 _ (λ t s. ok.mark_le t j (omega (arith, h.within)) d) in
            omega (arith, b, summing-at d, ok.mark_le i j l d, ok.few);
      }

  -- one more term
  pub summing_more : {row' : List ℕ} → i < weight → row' ≡ table span (λ j. place row j + place v (start + place terms (from + i) + j))
      → Summing span v start terms from weight (i + 1) row'
  summing_more l e = record { within = omega arith; summed = e ∙ table_same span (λ j d. fold_step ◌+◌ 0 i _ (summing-at d) refl) }

  -- all terms
  pub summing_end : weight ≤ i → row ≡ table span (marks_of v start terms from weight)
  summing_end l = subst (λ (i : ℕ). row ≡ table span (marks_of v start terms from i)) (omega (arith, h.within)) h.summed

-- ---- a row of counters, block by block

-- a counter with room for a byte
pub sum_fits : (x y : ℕ) → Fits w8 y → x ≤ 65280 → Fits w16 (x + y)
sum_fits x y f l = record { fits = omega (arith, f.fits) }

module _ {span : ℕ} {v : List ℕ} {start : ℕ} {terms : List ℕ} {from weight : ℕ} (ok : Summable span v start terms from weight) (b : ℕ) where
  -- what counting block b asks
  pub summable_block : 64 * b + 64 ≤ span → Summable 64 v (start + 64 * b) terms from weight
  summable_block l =
      record {
        few = ok.few;
        long = ok.long;
        start_in = omega (arith, ok.start_in);
        within = λ i d. omega (arith, ok.within i d);
        mark_le = λ i j d s. subst (λ (k : ℕ). place v k ≤ 1) (omega arith) (ok.mark_le i (64 * b + j) d (omega arith));
      }

  -- it is added after the ones before it
  pub block_added : {to : ℕ} {row c₀ c c' : List ℕ} → row ≡ table 64 (marks_of v (start + 64 * b) terms from weight)
      → Window to (64 * b) (λ j. place c₀ (to + j) + marks_of v start terms from weight j) c₀ c
      → Window (to + 64 * b) 64 (λ j. place c (to + 64 * b + j) + place row j) c c'
      → Window to (64 * (b + 1)) (λ j. place c₀ (to + j) + marks_of v start terms from weight j) c₀ c'
  block_added {to} {c₀ = c₀} e h put =
      window_join refl (omega arith) (λ k l. refl) (λ k l.
      ap₂ ◌+◌ (h.high _ (omega arith) ∙ ap (place c₀) (omega arith))
      (read_table _ e l ∙ fold_cong ◌+◌ 0 weight (λ i _. ap (place v) (omega arith)))) h put

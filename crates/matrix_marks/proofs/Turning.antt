-- The counters of one dual word: each row of marks, from each term on, has the places that count for the power of x that many rows before.
-- Assumes nothing.
use mathlib.Core.Path.{◌≡◌, refl, sym, ap, ap₂, ◌∙◌, subst}
use mathlib.Core.Logic.{⊎_elim}
use mathlib.Core.List.{List}
use Prim.Native.Nat.{ℕ, ◌+◌, ◌-◌, ◌*◌, ◌/◌, ◌%◌, ◌^◌, ◌≤◌, ◌<◌, zero-le}
use native.Mathlib.Nat.{not-suc-le-zero, eq-or-lt_of_le, le_of_suc-le-suc, le_trans, le_of_eq, add_comm, mul-add, mul-le-mul_left, div-add-mod}
use native.Mathlib.Numerals.{add-one}
use native.Mathlib.Decide.{dec_lt}
use native.Mathlib.Omega.{arith}
use lib.Dec.{eqb}
use lib.ListN.{length}
use Rattle.spec_range.specs.Fold.{indicator}
use Rattle.spec_range.proofs.Fold.{fold_cong}
use Rattle.spec_range.proofs.Count.{fold_le}
use Rattle.spec_word.specs.Word.{at}
use Rattle.word_array.specs.Stored.{place}
use Rattle.word_table.specs.Window.{Window}
use Rattle.word_table.proofs.Rows.{rows_apart}
use Rattle.field_powers.proofs.Laws.{power_below}
use Rattle.matrix_terms.proofs.Received.{order_le}
use Rattle.matrix_marks.specs.Marks.{powers_in, Markable, Marked, marks_of, Summable, terms_from, term_counts, Turned, Counted}

-- a sum of marks is at most the weight
marks_le : {span : ℕ} {v : List ℕ} {start : ℕ} {terms : List ℕ} {from weight : ℕ} → Summable span v start terms from weight
    → (j : ℕ) → j < span → marks_of v start terms from weight j ≤ 255
marks_le {weight = weight} ok j l = let b = fold_le weight 1 _ (λ i d. ok.mark_le i j d l) in le_trans b (omega (arith, ok.few))

-- ---- the rows one after another

-- f i is added to each row i below e, and at most 255 to any counter
pub record Raising (span rows : ℕ) (f : ℕ → ℕ → ℕ) (c₀ c : List ℕ) (e : ℕ) : Type 0 where
  pub within : e ≤ rows
  pub long : length c ≡ length c₀
  pub added : (i j : ℕ) → i < e → j < span → place c (span * i + j) ≡ place c₀ (span * i + j) + f i j
  pub high : (k : ℕ) → span * e ≤ k → place c k ≡ place c₀ k
  pub room : (k : ℕ) → place c k ≤ place c₀ k + 255

-- no row is added
pub raising_none : (span rows : ℕ) (f : ℕ → ℕ → ℕ) (c : List ℕ) → Raising span rows f c c 0
raising_none span rows f c =
    record { within = zero-le; long = refl; added = λ i j l. absurd (not-suc-le-zero l); high = λ k l. refl; room = λ k. omega arith }

module _ {span rows : ℕ} {f : ℕ → ℕ → ℕ} {c₀ c : List ℕ} {e : ℕ} (h : Raising span rows f c₀ c e) where
  -- one more row
  pub raising_more : {c' : List ℕ} → e < rows → ((j : ℕ) → j < span → f e j ≤ 255)
      → Window (span * e) span (λ j. place c (span * e + j) + f e j) c c' → Raising span rows f c₀ c' (e + 1)
  raising_more {c'} l few put =
      record {
        within = omega arith;
        long = put.long ∙ h.long;
        added = λ i j b s. ⊎_elim
            (λ d. subst (λ (i : ℕ). place c' (span * i + j) ≡ place c₀ (span * i + j) + f i j) (sym d) (new j s))
            (λ b. put.low (span * i + j) (omega (arith, rows_apart span b)) ∙ h.added i j b s)
            (eq-or-lt_of_le (le_of_suc-le-suc (subst (λ (m : ℕ). i < m) (add-one e) b)));
        high = λ k b. put.high k (omega (arith, next)) ∙ h.high k (omega (arith, next));
        room = λ k. room k (dec_lt k (span * e)) (dec_lt k (span * e + span));
      }
    where
      next : span * e + span ≤ span * (e + 1)
      next = rows_apart span {b = e} {c = e + 1} (omega arith)

      new : (j : ℕ) → j < span → place c' (span * e + j) ≡ place c₀ (span * e + j) + f e j
      new j s = put.at j s ∙ ap (λ (x : ℕ). x + f e j) (h.high _ (omega arith))

      room : (k : ℕ) → Dec (k < span * e) → Dec (k < span * e + span) → place c' k ≤ place c₀ k + 255
      room k (yes b) d = le_trans (le_of_eq (put.low k b)) (h.room k)
      room k (no b) (yes d) =
          let split : k ≡ span * e + (k - span * e) = omega arith in
          subst (λ (k : ℕ). place c' k ≤ place c₀ k + 255) (sym split) (omega (arith, new (k - span * e) (omega arith), few (k - span * e) (omega arith)))
      room k (no b) (no d) = le_trans (le_of_eq (put.high k (omega arith))) (h.room k)

-- ---- what the rows have

-- the powers can be marked
pub turned_markable : {stride span p n : ℕ} {w terms : List ℕ} {from weight : ℕ} {v c : List ℕ} {q : ℕ} (rows : ℕ)
    → Turned stride span p n w terms from weight v c → q ≡ 2 ^ p → rows ≤ 2 * (q - 1) → Markable stride span n rows terms w v
turned_markable {stride} {p = p} rows ok size most-rows =
    let most : 2 ^ p ≤ 64 = order_le ok.sizes in
    record {
      short = ok.short;
      fits = ok.fits;
      within = omega (arith, ok.powers_long);
      word = ok.word;
      long = le_trans (mul-le-mul_left {m = rows} {n = 2 * (2 ^ p - 1)} stride (omega arith)) ok.marks_long;
      byte = λ e l. omega (arith, ok.power_at e (omega arith), power_below p ok.sizes.p_low ok.sizes.p_high e);
    }

module _ {stride span p n : ℕ} {w terms : List ℕ} {from weight : ℕ} {v₀ c₀ v : List ℕ} {q rows : ℕ}
    (ok : Turned stride span p n w terms from weight v₀ c₀) (marked : Marked stride span n rows (powers_in terms) w v) (size : q ≡ 2 ^ p)
    (enough : 2 * (q - 1) ≤ rows) where
  -- a term is an offset of rows and of places
  split : (e i j : ℕ)
      → stride * e + terms_from terms from i + j ≡ stride * (e + terms_from terms from i / stride) + (terms_from terms from i % stride + j)
  split e i j = omega (arith, div-add-mod (terms_from terms from i) stride, mul-add stride e (terms_from terms from i / stride))

  -- what counting row e asks
  pub turned_summable : (e : ℕ) → e < q - 1 → Summable span v (stride * e) terms from weight
  turned_summable e l =
      record {
        few = ok.turning.few;
        long = ok.terms_long;
        start_in = omega (arith, rows_apart stride {b = e} {c = rows} (omega arith), marked.long, ok.fits);
        within = λ i b. omega (
          arith,
          split e i span,
          rows_apart stride {b = e + terms_from terms from i / stride} {c = rows} (omega (arith, ok.turning.log_lt i b)),
          marked.long,
          ok.turning.place_lt i b,
          ok.fits,
        );
        mark_le = λ i j b s. subst (λ (k : ℕ). place v k ≤ 1) (sym (split e i j))
            (marked.mark_le _ _ (omega (arith, ok.turning.log_lt i b)) (omega (arith, ok.turning.place_lt i b)));
      }

  -- and its counters
  pub counters_in : {f : ℕ → ℕ → ℕ} {c : List ℕ} {e : ℕ} → Raising span (q - 1) f c₀ c e → e < q - 1 → span * e + span ≤ length c
  counters_in h l = omega (arith, h.long, rows_apart span l, ok.counts_long, ap (λ (x : ℕ). span * (x - 1)) size)

  -- and a bound of its counts
  pub turned_le : (e : ℕ) → e < q - 1 → (j : ℕ) → j < span → marks_of v (stride * e) terms from weight j ≤ 255
  turned_le e l = marks_le (turned_summable e l)

  marks-counted : (e j : ℕ) → e < q - 1 → j < n
      → marks_of v (stride * e) terms from weight j ≡ term_counts stride p (at n w) (terms_from terms from) weight e j
  unfolding term_counts
  marks-counted e j l s =
      fold_cong ◌+◌ 0 weight (λ i b.
      ap (place v) (split e i j)
      ∙ marked.mark_at _ _ (omega (arith, ok.turning.log_lt i b)) (omega (arith, ok.turning.place_lt i b))
      ∙ ap₂ (λ (x y : ℕ). indicator (eqb x y)) (ap (at n w) (add_comm (terms_from terms from i % stride) j))
      (ok.power_at _ (omega (arith, ok.turning.log_lt i b))))

  -- all rows: the terms are counted
  pub raising_end : {c : List ℕ} {e : ℕ} → Raising span (q - 1) (λ e. marks_of v (stride * e) terms from weight) c₀ c e → q - 1 ≤ e
      → Counted span p n (term_counts stride p (at n w) (terms_from terms from) weight) c₀ c
  raising_end h l =
      record {
        long = h.long;
        added = λ e j b s.
            h.added e j (omega arith) (omega (arith, ok.short)) ∙ ap (λ (x : ℕ). place c₀ (span * e + j) + x) (marks-counted e j (omega arith) s);
        room = h.room;
      }

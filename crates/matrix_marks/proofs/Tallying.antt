-- The counters of one dual word after another, and the matrix that is gathered from them.
-- Assumes nothing.
use mathlib.Core.Path.{◌≡◌, sym, ap, ◌∙◌, subst}
use mathlib.Core.List.{List}
use Prim.Native.Nat.{ℕ, ◌+◌, ◌-◌, ◌*◌, ◌^◌, ◌≤◌, ◌<◌}
use native.Mathlib.Nat.{le_of_eq, mul-le-mul}
use native.Mathlib.Omega.{arith}
use lib.ListN.{length, replicate, length-replicate}
use Rattle.spec_range.specs.Fold.{total}
use Rattle.spec_range.proofs.Loop.{fold_none, fold_step, zero_at}
use Rattle.spec_word.specs.Word.{at}
use Rattle.sizes.specs.Blocks.{blocks, span, stride}
use Rattle.sizes.proofs.Lengths.{blocks_fit}
use Rattle.word_array.specs.Stored.{place}
use Rattle.word_table.specs.Multiples.{word_of, Multiplied}
use Rattle.word_table.proofs.Rows.{rows_apart}
use Rattle.word_table.proofs.Tables.{word_of_period}
use Rattle.matrix_terms.specs.Count.{dual_counts}
use Rattle.matrix_terms.specs.Terms.{term, Terms, RowOf, TermsOf, terms_at, weight_in}
use Rattle.matrix_terms.proofs.Whole.{RowsFilled, terms_weight}
use Rattle.matrix_marks.specs.Marks.{terms_from, term_counts, Turned, Counted, Tallied, Rooms, RoomsFit, Countable, Gatherable, Gathered}
use Rattle.matrix_marks.proofs.Dual.{terms-count}

-- room for at most q symbols and x blocks
module _ (p q : ℕ) (few : 2 ^ p ≤ q) (n x : ℕ) (fits : blocks n ≤ x) where
  pub table_fits : stride n * 2 ^ p ≤ 128 * x * q
  table_fits = mul-le-mul {n₁ = stride n} {m₁ = 2 ^ p} {n₂ = 128 * x} {m₂ = q} (omega arith) few

  pub rooms_fit : RoomsFit (stride n) (span n) p (128 * x * (2 * (q - 1))) (64 * x * q)
  rooms_fit =
      record {
        marks_fit = mul-le-mul {n₁ = stride n} {m₁ = 2 * (2 ^ p - 1)} {n₂ = 128 * x} {m₂ = 2 * (q - 1)} (omega arith) (omega (arith, few));
        counters_fit = mul-le-mul {n₁ = span n} {m₁ = 2 ^ p - 1} {n₂ = 64 * x} {m₂ = q} (omega arith) (omega (arith, few));
      }

-- rooms that suffice, all zeros
pub rooms : {stride span p marks counters : ℕ} → RoomsFit stride span p marks counters → Rooms stride span p (replicate marks 0) (replicate counters 0)
rooms {marks = marks} {counters = counters} fit =
    record {
      marks_long = omega (arith, fit.marks_fit, length-replicate {A = ℕ} marks 0);
      counts_long = omega (arith, fit.counters_fit, length-replicate {A = ℕ} counters 0);
      zeros = zero_at counters;
    }

-- no dual word is counted
pub tallied_none : {stride span p n duals : ℕ} {terms v : List ℕ} {r : ℕ → ℕ} {c : List ℕ} → Rooms stride span p v c
    → Tallied stride span p n duals terms r 0 c
tallied_none {span = span} ok =
    record {
      long = ok.counts_long;
      tally = λ b h k j _ _. ok.zeros (span * k + j) ∙ sym (fold_none ◌+◌ 0 _);
      room = λ k. le_of_eq (ok.zeros k);
    }

module _ {p n duals : ℕ} {terms t v₀ c₀ : List ℕ} (ok : Countable (stride n) (span n) p n duals terms t v₀ c₀) {l : ℕ} (d : l < duals) {w c : List ℕ}
    (made : (b : ℕ → ℕ) → RowOf (stride n) p n l b terms → Multiplied (span n) p n b (word_of (stride n) n t) w)
    (h : Tallied (stride n) (span n) p n duals terms (word_of (stride n) n t) l c) {x : ℕ} (e : x ≡ blocks n) where
  numbers : Terms (stride n) p n duals terms
  numbers = ok.terms_of.numbers

  -- a word has room in its blocks
  fits : n < span n
  fits = blocks_fit numbers.sizes.n_high

  -- what counting dual word l asks, by the number of blocks that the code has
  pub dual_turned : {v : List ℕ} → span n ≤ length w → length v ≡ length v₀
      → Turned (128 * x) (64 * x) p n w terms (terms_at + 64 * x * l) (weight_in terms) v c
  dual_turned {v} long kept =
      subst (λ (x : ℕ). Turned (128 * x) (64 * x) p n w terms (terms_at + 64 * x * l) (weight_in terms) v c) (sym e)
      record {
        sizes = numbers.sizes;
        short = omega (arith, fits);
        fits = omega (arith, fits);
        power_at = numbers.powers.exp_at;
        word = long;
        turning = record {
          few = omega (arith, numbers.few, numbers.sizes.n_high);
          log_lt = λ i a. numbers.log_lt l i d a;
          place_lt = λ i a. numbers.place_lt l i d a;
        };
        powers_long = omega (arith, numbers.long);
        terms_long = let last : l < 32 = omega (arith, numbers.few_duals) in
            omega (arith, numbers.few, fits, rows_apart (span n) last, numbers.long);
        marks_long = omega (arith, ok.rooms.marks_long, kept);
        counts_long = h.long;
        room = λ k. omega (arith, h.room k, numbers.few_duals);
      }

  -- it is counted
  pub dual_tallied : {c' : List ℕ} → Counted (64 * x) p n (term_counts (128 * x) p (at n w) (terms_from terms (terms_at + 64 * x * l)) (weight_in terms)) c c'
      → Tallied (stride n) (span n) p n duals terms (word_of (stride n) n t) (l + 1) c'
  dual_tallied {c'} count =
      record {
        long = omega (arith, add.long, h.long);
        tally = λ b all k j low col.
            let row = all.row_of l d in
            add.added k j low col
            ∙ fold_step ◌+◌ 0 l _ (h.tally b all k j low col)
            (terms-count numbers row (omega (arith, fits)) (word_of_period (stride n) n t) (made (b l) row) k j);
        room = λ k. omega (arith, add.room k, h.room k);
      }
    where
      add : Counted (span n) p n (term_counts (stride n) p (at n w) (term n terms l) (weight_in terms)) c c'
      add = subst (λ (x : ℕ). Counted (64 * x) p n (term_counts (128 * x) p (at n w) (terms_from terms (terms_at + 64 * x * l)) (weight_in terms)) c c') e count

-- ---- the matrix

module _ {p n duals : ℕ} {terms : List ℕ} {r : ℕ → ℕ} {c m : List ℕ} (h : Tallied (stride n) (span n) p n duals terms r duals c) {x : ℕ}
    (e : x ≡ blocks n) where
  -- what gathering the rows asks
  pub tallied_gatherable : Terms (stride n) p n duals terms → length m ≡ 2 ^ p * n → Gatherable (64 * x) p n terms c m
  tallied_gatherable ok size =
      subst (λ (x : ℕ). Gatherable (64 * x) p n terms c m) (sym e)
      record {
        sizes = ok.sizes;
        short = omega (arith, blocks_fit ok.sizes.n_high);
        logs_long = omega (arith, ok.long);
        log_lt = ok.powers.log_lt;
        counts_long = h.long;
        size = size;
      }

  -- the gathered rows are those of the matrix
  pub gathered_filled : {b : ℕ → ℕ → ℕ} → TermsOf (stride n) p n duals b terms → Gathered (64 * x) p n terms c m
      → RowsFilled p n b duals (weight_in terms) r m
  gathered_filled {b} all g =
      let powers = all.numbers.powers in
      record {
        weights = terms_weight all;
        rows = λ i j pos l col.
            (subst (λ (x : ℕ). Gathered (64 * x) p n terms c m) e g).gathered i j pos l col
            ∙ h.tally b all (place terms i) j (powers.log_lt i pos l) col
            ∙ ap (λ (x : ℕ). total duals (λ l. dual_counts p n (b l) r x j)) (powers.log_is i pos l);
      }

-- The division in place as the loop has it with i coefficients left: the places below i are as they were, and the d places from i on hold the remainder of
-- the coefficients above, each of which gave the quotient a place.
-- Assumes nothing.
use mathlib.Core.Path.{◌≡◌, refl, sym, ap, ap₂, ◌∙◌, fun_ext, subst}
use mathlib.Core.Bool.{Bool, true, false, cond, ◌&&◌, ◌||◌}
use mathlib.Core.Logic.{◌≢◌}
use mathlib.Core.List.{List}
use Prim.Native.Nat.{ℕ, zero, suc, pred, ◌+◌, ◌-◌, ◌*◌, ◌^◌, ◌≤◌, ◌<◌, zero-le}
use native.Mathlib.Nat.{not-suc-le-zero, lt_irrefl, le_of_suc-le-suc}
use native.Mathlib.Numerals.{add-one}
use native.Mathlib.Decide.{dec_lt, ℕ_discrete}
use native.Mathlib.Omega.{arith}
use borrow.Author.Tests.{eq-eqb, ne_eqb}
use lib.Bits.{bit_xor}
use lib.Dec.{eqb}
use lib.ListN.{length, set, length-set}
use lib.Seq.{get_or-set_same, get_or-set_other}
use Rattle.spec_range.specs.Table.{table}
use Rattle.spec_range.proofs.Fold.{fold_cong}
use Rattle.spec_field.specs.Field.{FieldOps, FieldLaws}
use Rattle.spec_field.specs.Symbols.{gf}
use Rattle.spec_field.specs.Symbols as symbols
use Rattle.spec_field.proofs.Laws.{zero_below, zero_add}
use Rattle.spec_field.proofs.Gf.{gf_laws}
use Rattle.spec_word.specs.Division.{before, all_zero, reduce, remainder, divides}
use Rattle.spec_word.specs.CyclicCode.{unity}
use Rattle.spec_word.proofs.Division.{remainder_at, remainder-at, remainder-cong}
use Rattle.spec_word.proofs.Quotient.{prefix_below, quotient_at, quotient-at, quotient-cong, times, times-extend, division, quotient-above}
use Rattle.sizes.specs.Blocks.{span, stride}
use Rattle.sizes.proofs.Lengths.{blocks_fit}
use Rattle.word_array.specs.Stored.{place, Sizes, Stored}
use Rattle.word_table.specs.Multiples.{entry, word_of, Multiples}
use Rattle.word_table.specs.Window.{Window}
use Rattle.word_table.proofs.Window.{window_at, read_table}
use Rattle.word_table.proofs.Rows.{rows_apart}
use Rattle.word_divide.specs.Window.{Dividend, AddedAt, Remains, DividedBy}

-- ---- what the division asks, of a word that starts a list

pub stored_same : {p k : ℕ} {v : List ℕ} {w : ℕ → ℕ} → ((j : ℕ) → j < k → place v j ≡ w j) → ((j : ℕ) → j < k → w j < 2 ^ p) → Stored p k v
stored_same {p} same h = record { symbol = λ j b. subst (λ (x : ℕ). x < 2 ^ p) (sym (same j b)) (h j b) }

pub dividend : {p n d k : ℕ} {t v₀ v : List ℕ} {w : ℕ → ℕ} → Sizes p n → 1 ≤ d → d < n → d ≤ k → k ≤ n + 1 → Multiples (stride n) p n t
    → n + span n ≤ length v₀ → Window 0 k w v₀ v → ((j : ℕ) → j < k → w j < 2 ^ p) → Dividend (stride n) (span n) p n d k t v
dividend {n = n} sizes pos high low fits multiples room e symbol =
    record {
      sizes = sizes;
      degree_pos = pos;
      degree_lt = high;
      k_low = low;
      k_high = fits;
      n_fits = blocks_fit sizes.n_high;
      span_high = omega arith;
      symbols = stored_same (window_at e) symbol;
      multiples = multiples;
      long = subst (λ (m : ℕ). n + span n ≤ m) (sym e.long) room;
    }

-- ---- a row added from place i on

pub added_none : (t : List ℕ) (from i : ℕ) (v : List ℕ) → AddedAt t from i 0 v v
added_none t from i v = record { long = refl; low = λ k l. refl; added = λ j l. absurd (not-suc-le-zero l); high = λ k l. refl }

-- the places from i on were read, those of t from `from` on were added to them, and the sum was written there
pub added_written : {t : List ℕ} {from i count : ℕ} {v₀ v old sum : List ℕ} → old ≡ table count (λ j. place v₀ (i + j))
    → sum ≡ table count (λ j. bit_xor (place old j) (place t (from + j))) → Window i count (place sum) v₀ v → AddedAt t from i count v₀ v
added_written {t} {from} read add written =
    record {
      long = written.long;
      low = written.low;
      added = λ j l. written.at j l ∙ read_table _ add l ∙ ap (λ (x : ℕ). bit_xor x (place t (from + j))) (read_table _ read l);
      high = written.high;
    }

-- a part added, and one from its end on
pub added_join : {t : List ℕ} {from from' i i' a b c : ℕ} {v₀ v v' : List ℕ} → from' ≡ from + a → i' ≡ i + a → c ≡ a + b → AddedAt t from i a v₀ v
    → AddedAt t from' i' b v v' → AddedAt t from i c v₀ v'
added_join {t} {from} {i = i} {a = a} {c = c} {v₀} {v} {v'} ef ei ec one two =
    record {
      long = two.long ∙ one.long;
      low = λ k l. two.low k (omega arith) ∙ one.low k l;
      added = λ j l. added j l (dec_lt j a);
      high = λ k l. two.high k (omega arith) ∙ one.high k (omega arith);
    }
  where
    added : (j : ℕ) → j < c → Dec (j < a) → place v' (i + j) ≡ bit_xor (place v₀ (i + j)) (place t (from + j))
    added j l (yes d) = two.low (i + j) (omega arith) ∙ one.added j d
    added j l (no d) =
        ap (place v') (omega arith) ∙ two.added (j - a) (omega arith)
        ∙ ap₂ bit_xor (ap (place v) (omega arith) ∙ one.high (i + j) (omega arith)) (ap (place t) (omega arith))

-- ---- the remainder of the coefficients from place i on, of k

module _ (F : FieldOps) (d : ℕ) (g : ℕ → ℕ) where
  pub above : ℕ → (ℕ → ℕ) → ℕ → ℕ → ℕ
  above k w i = remainder_at F d g (k - i) (λ j. w (i + j))

  above_same : (k : ℕ) (w : ℕ → ℕ) (i m : ℕ) (u : ℕ → ℕ) → k - i ≡ m → ((j : ℕ) → w (i + j) ≡ u j) → (j : ℕ) → above k w i j ≡ remainder_at F d g m u j
  unfolding above
  above_same k w i m u e h j = ap₂ (λ (m : ℕ) (u : ℕ → ℕ). remainder_at F d g m u j) e (fun_ext h)

  above-all : (k : ℕ) (w : ℕ → ℕ) (j : ℕ) → above k w 0 j ≡ remainder_at F d g k w j
  above-all k w = above_same k w 0 k w (omega arith) (λ j. ap w (omega arith))

  above_step : (k : ℕ) (w : ℕ → ℕ) (i : ℕ) → 0 < i → i ≤ k → (j : ℕ) → reduce F d g (above k w i) (w (i - 1)) j ≡ above k w (i - 1) j
  unfolding above remainder_at before
  above_step k w i l h j = sym (above_same k w (i - 1) (suc (k - i)) (before (w (i - 1)) (λ j. w (i + j))) (omega arith) same j)
    where
      same : (j : ℕ) → w (i - 1 + j) ≡ before (w (i - 1)) (λ j. w (i + j)) j
      same zero = ap w (omega arith)
      same (suc j) = ap w (omega arith)

  -- the top coefficient of the remainder of those above i is the quotient's at i
  above-top : (k : ℕ) (w : ℕ → ℕ) (i : ℕ) → i < k → above k w (suc i) (pred d) ≡ quotient_at F d g k w i
  unfolding above quotient_at before
  above-top zero w i l = absurd (not-suc-le-zero l)
  above-top (suc k) w zero l = above_same (suc k) w 1 k (λ j. w (suc j)) (omega arith) (λ j. ap w (omega arith)) (pred d)
  above-top (suc k) w (suc i) l =
      above_same (suc k) w (suc (suc i)) (k - suc i) (λ j. w (suc (suc i + j))) (omega arith) (λ j. ap w (omega arith)) (pred d)
      ∙ above-top k (λ j. w (suc j)) i (le_of_suc-le-suc l)

  -- d coefficients are their own remainder
  own-remainder : FieldLaws F → 0 < d → (w : ℕ → ℕ) (j : ℕ) → j < d → remainder_at F d g d w j ≡ w j
  unfolding times
  own-remainder laws pos w j b =
      sym (zero_add F laws _)
      ∙ ap (λ (x : ℕ). F.add x (remainder_at F d g d w j)) (sym (times-extend F d g laws pos 0 d _ zero-le none j))
      ∙ sym (division F d g laws pos d w j) ∙ prefix_below d w j b
    where
      none : (u : ℕ) → 0 ≤ u → quotient_at F d g d w u ≡ 0
      none u l = quotient-above F d g laws pos d w u (λ j a c. absurd (not-suc-le-zero {n = 0} (omega arith)))

  above-start : FieldLaws F → 0 < d → (k : ℕ) (w : ℕ → ℕ) → d ≤ k → (j : ℕ) → j < d → above k w (k - d) j ≡ w (k - d + j)
  unfolding above
  above-start laws pos k w l j b =
      ap (λ (m : ℕ). remainder_at F d g m (λ j. w (k - d + j)) j) (omega arith) ∙ own-remainder laws pos (λ j. w (k - d + j)) j b

-- ---- the loop

-- of v₀'s k coefficients i are left; q, as long as q₀, has the quotient's places from i on
pub record Dividing (stride p n d k : ℕ) (t v₀ q₀ : List ℕ) (i : ℕ) (q v : List ℕ) : Type 0 where
  pub within : i + d ≤ k
  pub long : length v ≡ length v₀
  pub symbols : Stored p (i + d) v
  pub low : (j : ℕ) → j < i → place v j ≡ place v₀ j
  pub rest : (j : ℕ) → j < d → place v (i + j) ≡ above (gf p) d (word_of stride n t) k (place v₀) i j
  pub room : length q ≡ length q₀
  pub quotient : (j : ℕ) → i ≤ j → j < k - d → place q j ≡ quotient_at (gf p) d (word_of stride n t) k (place v₀) j

module _ {stride span p n d k : ℕ} {t v₀ : List ℕ} (ok : Dividend stride span p n d k t v₀) where
  open ok use {sizes, degree_pos, degree_lt, k_low, k_high, n_fits, span_high, multiples}

  laws : FieldLaws (gf p)
  laws = gf_laws p sizes.p_low sizes.p_high

  pub dividing_start : (q : List ℕ) → Dividing stride p n d k t v₀ q (k - d) q v₀
  dividing_start q =
      record {
        within = omega arith;
        long = refl;
        symbols = record { symbol = λ j b. ok.symbols.symbol j (omega arith) };
        low = λ j b. refl;
        rest = λ j b. sym (above-start (gf p) d (word_of stride n t) laws degree_pos k (place v₀) k_low j b);
        room = refl;
        quotient = λ j a b. absurd (lt_irrefl j (omega arith));
      }

  module _ {i : ℕ} {q₀ q v : List ℕ} (h : Dividing stride p n d k t v₀ q₀ i q v) where
    pub dividing-end : i ≤ 0 → DividedBy p k d (word_of stride n t) (place v₀) q v
    dividing-end l =
        let e : i ≡ 0 = omega arith in
        record {
          remains = record {
            places = λ j b.
                ap (place v) (omega arith) ∙ h.rest j b ∙ ap (λ (i : ℕ). above (gf p) d (word_of stride n t) k (place v₀) i j) e
                ∙ above-all (gf p) d (word_of stride n t) k (place v₀) j ∙ sym (remainder-at (gf p) d (word_of stride n t) laws k (place v₀) j b);
          };
          places = λ j b. h.quotient j (omega arith) b ∙ sym (quotient-at (gf p) d (word_of stride n t) laws degree_pos k (place v₀) j);
        }

    module _ (left : 0 < i) {c : ℕ} (e : c ≡ place v (i - 1 + d)) where
      top-symbol : c < 2 ^ p
      top-symbol = subst (λ (x : ℕ). x < 2 ^ p) (sym e) (h.symbols.symbol (i - 1 + d) (omega arith))

      pub row_within : stride * c + span ≤ length t
      row_within = omega (arith, rows_apart stride top-symbol, multiples.size)

      -- the remainder so far, with the next coefficient below it
      shifted : (j : ℕ) → j < d → place v (i - 1 + j) ≡ before (place v₀ (i - 1)) (above (gf p) d (word_of stride n t) k (place v₀) i) j
      unfolding before
      shifted zero l = ap (place v) (omega arith) ∙ h.low (i - 1) (omega arith)
      shifted (suc j) l = ap (place v) (omega arith) ∙ h.rest j (omega arith)

      top : place v (i - 1 + d) ≡ above (gf p) d (word_of stride n t) k (place v₀) i (pred d)
      top = ap (place v) (omega arith) ∙ h.rest (pred d) (omega arith)

      multiple : (j : ℕ) → j < d → entry stride t c j ≡ symbols.product p (above (gf p) d (word_of stride n t) k (place v₀) i (pred d)) (word_of stride n t j)
      multiple j l =
          multiples.multiple c j top-symbol (omega arith)
          ∙ ap (λ (x : ℕ). symbols.product p x (word_of stride n t j)) (e ∙ top)

      reduced-at : (j : ℕ) → j < d → bit_xor (place v (i - 1 + j)) (entry stride t c j) ≡ above (gf p) d (word_of stride n t) k (place v₀) (i - 1) j
      unfolding reduce
      reduced-at j l =
          ap₂ bit_xor (shifted j l) (multiple j l) ∙ above_step (gf p) d (word_of stride n t) k (place v₀) i left (omega (arith, h.within)) j

      top-quotient : place v (i - 1 + d) ≡ quotient_at (gf p) d (word_of stride n t) k (place v₀) (i - 1)
      top-quotient =
          top ∙ ap (λ (m : ℕ). above (gf p) d (word_of stride n t) k (place v₀) m (pred d)) (omega arith)
          ∙ above-top (gf p) d (word_of stride n t) k (place v₀) (i - 1) (omega (arith, h.within))

      pub dividing-more : {v' : List ℕ} → n ≤ length q₀ → AddedAt t (stride * c) (i - 1) span v v'
          → Dividing stride p n d k t v₀ q₀ (i - 1) (set q (i - 1) (place v (i - 1 + d))) v'
      dividing-more {v'} wide a =
          record {
            within = omega (arith, h.within);
            long = a.long ∙ h.long;
            symbols = record { symbol = λ j l. symbol j l (dec_lt j (i - 1)) };
            low = λ j l. a.low j l ∙ h.low j (omega arith);
            rest = λ j l. a.added j (omega arith) ∙ reduced-at j l;
            room = length-set q (i - 1) _ ∙ h.room;
            quotient = λ j b l. written j b l (ℕ_discrete j (i - 1));
          }
        where
          q' : List ℕ
          q' = set q (i - 1) (place v (i - 1 + d))

          written : (j : ℕ) → i - 1 ≤ j → j < k - d → Dec (j ≡ i - 1) → place q' j ≡ quotient_at (gf p) d (word_of stride n t) k (place v₀) j
          written j b l (yes r) =
              subst (λ (j : ℕ). place q' j ≡ quotient_at (gf p) d (word_of stride n t) k (place v₀) j) (sym r)
              (get_or-set_same q (i - 1) _ 0 (omega (arith, h.room, h.within, k_high)) ∙ top-quotient)
          written j b l (no r) = get_or-set_other q (i - 1) j _ 0 r ∙ h.quotient j (omega arith) l

          symbol : (j : ℕ) → j < i - 1 + d → Dec (j < i - 1) → place v' j < 2 ^ p
          symbol j l (yes b) = subst (λ (x : ℕ). x < 2 ^ p) (sym (a.low j b)) (h.symbols.symbol j (omega arith))
          symbol j l (no b) =
              let m : ℕ = j - (i - 1) in
              let q : i - 1 + m ≡ j = omega arith in
              subst (λ (j : ℕ). place v' j < 2 ^ p) q
              (subst (λ (x : ℕ). x < 2 ^ p) (sym (a.added m (omega arith)))
              (laws.add_below _ _ (h.symbols.symbol (i - 1 + m) (omega arith)) (multiples.symbol c m top-symbol (omega arith))))

-- ---- what is left of a word

-- the division goes by the coefficients
pub divided_same : {p n k d : ℕ} {g : ℕ → ℕ} (w w' : ℕ → ℕ) {q r : List ℕ} → Sizes p n → 1 ≤ d → ((j : ℕ) → j < k → w j ≡ w' j)
    → DividedBy p k d g w q r → DividedBy p k d g w' q r
divided_same {p} {k = k} {d} {g} w w' sizes pos same h =
    let laws = gf_laws p sizes.p_low sizes.p_high in
    record {
      remains = record {
        places = λ j b.
            h.remains.places j b ∙ remainder-at (gf p) d g laws k w j b ∙ remainder-cong (gf p) d g laws k w w' same j
            ∙ sym (remainder-at (gf p) d g laws k w' j b);
      };
      places = λ i b.
          h.places i b ∙ quotient-at (gf p) d g laws pos k w i ∙ quotient-cong (gf p) d g laws pos k w w' same i
          ∙ sym (quotient-at (gf p) d g laws pos k w' i);
    }

-- the test that is made of it is the definition's of the remainder
pub remains_test : {p k d : ℕ} {g w : ℕ → ℕ} {r : List ℕ} → Remains p k d g w r → all_zero d r ≡ all_zero d (remainder (gf p) d g k w)
unfolding all_zero
remains_test {d = d} h = fold_cong ◌&&◌ true d (λ j l. ap (λ (x : ℕ). eqb x 0) (h.places j l))

-- ---- x^n - 1

pub unity_symbol : {p n : ℕ} → Sizes p n → (j : ℕ) → unity n j < 2 ^ p
unfolding unity
unity_symbol {p} {n} sizes j = go (eqb j 0 || eqb j n)
  where
    go : (b : Bool) → cond b 1 0 < 2 ^ p
    go true = (gf_laws p sizes.p_low sizes.p_high).one_below
    go false = zero_below (gf p) (gf_laws p sizes.p_low sizes.p_high)

pub unity_put : {n : ℕ} {v₀ v : List ℕ} → 1 ≤ n → n < length v₀ → Window 0 n (λ j. 0) v₀ v → Window 0 (n + 1) (unity n) v₀ (set (set v 0 1) n 1)
unfolding unity
unity_put {n} {v₀} {v} pos l h =
    record {
      long = length-set (set v 0 1) n 1 ∙ length-set v 0 1 ∙ h.long;
      at = λ k b. ap (place ones) (omega arith) ∙ value k b (ℕ_discrete k n) (ℕ_discrete k 0);
      low = λ k b. absurd (not-suc-le-zero b);
      high = λ k b. other k (omega arith) (omega arith) ∙ h.high k (omega arith);
    }
  where
    ones : List ℕ
    ones = set (set v 0 1) n 1

    long : length (set v 0 1) ≡ length v₀
    long = length-set v 0 1 ∙ h.long

    other : (k : ℕ) → k ≢ n → k ≢ 0 → place ones k ≡ place v k
    other k a b = get_or-set_other (set v 0 1) n k 1 0 a ∙ get_or-set_other v 0 k 1 0 b

    value : (k : ℕ) → k < n + 1 → Dec (k ≡ n) → Dec (k ≡ 0) → place ones k ≡ unity n k
    value k b (yes a) z =
        subst (λ (k : ℕ). place ones k ≡ unity n k) (sym a)
        (get_or-set_same (set v 0 1) n 1 0 (omega (arith, long))
        ∙ sym (ap₂ (λ (a b : Bool). cond (a || b) 1 0) (ne_eqb n 0 (omega arith)) (eq-eqb n n refl)))
    value k b (no a) (yes z) =
        subst (λ (k : ℕ). place ones k ≡ unity n k) (sym z)
        (get_or-set_other (set v 0 1) n 0 1 0 (omega arith) ∙ get_or-set_same v 0 1 0 (omega (arith, h.long)))
    value k b (no a) (no z) =
        other k a z ∙ window_at h k (omega arith) ∙ sym (ap₂ (λ (a b : Bool). cond (a || b) 1 0) (ne_eqb k 0 z) (ne_eqb k n a))

pub unity_test : (n : ℕ) {p d : ℕ} {g : ℕ → ℕ} {r : List ℕ} → Remains p (n + 1) d g (unity n) r
    → all_zero d r ≡ divides (gf p) d g (suc n) (unity n)
unfolding divides
unity_test n {p} {d} {g} h = remains_test h ∙ ap (λ (k : ℕ). all_zero d (remainder (gf p) d g k (unity n))) (add-one n)

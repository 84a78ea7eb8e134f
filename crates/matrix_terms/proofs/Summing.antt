-- A product by a table, block by block, as the loops have it after i of the dual word's terms: the sum of the table's places that each of them tells.
-- Assumes nothing.
use mathlib.Core.Path.{◌≡◌, sym, ap, ap₂, ◌∙◌, subst}
use mathlib.Core.Bool.{Bool, not, cond}
use mathlib.Core.List.{List}
use Prim.Native.Nat.{ℕ, ◌+◌, ◌-◌, ◌*◌, ◌/◌, ◌%◌, ◌^◌, ◌≤◌, ◌<◌, zero-le}
use native.Mathlib.Decide.{ℕ_discrete}
use native.Mathlib.Omega.{arith}
use borrow.Author.Tests.{eq-eqb, ne_eqb}
use lib.Bits.{bit_and, bit_xor, xor_zero_r, and_mask}
use lib.ListN.{length, replicate, length-replicate}
use lib.Pow.{pow_mono}
use lib.Seq.{ext_get_or}
use Rattle.spec_range.specs.Fold.{fold}
use Rattle.spec_range.specs.Table.{table}
use Rattle.spec_range.proofs.Fold.{fold_cong}
use Rattle.spec_range.proofs.Table.{table_at, table-length}
use Rattle.spec_range.proofs.Loop.{fold_none, fold_step, zero_at}
use Rattle.spec_field.specs.Field.{FieldLaws}
use Rattle.spec_field.specs.Symbols.{gf}
use Rattle.spec_field.specs.Symbols as symbols
use Rattle.spec_field.proofs.Laws.{zero_mul}
use Rattle.spec_field.proofs.Gf.{gf_laws}
use Rattle.spec_word.specs.Word.{nonzero, product}
use Rattle.spec_word.proofs.Sums.{sum_below}
use Rattle.sizes.specs.Blocks.{blocks, span, stride, shift}
use Rattle.sizes.proofs.Lengths.{Length, one, two, four, length_of, blocks_fit}
use Rattle.word_array.specs.Stored.{place}
use Rattle.word_table.specs.Multiples.{word_of, Multiples, Multiplied}
use Rattle.word_table.specs.Rows.{turned}
use Rattle.word_table.specs.Window.{Window}
use Rattle.word_table.proofs.Window.{window_at}
use Rattle.word_table.proofs.Rows.{rows_apart}
use Rattle.field_powers.proofs.Laws.{power_below}
use Rattle.matrix_terms.specs.Terms.{Terms, RowOf, term, terms_at, weight_in}
use Rattle.matrix_terms.specs.Sums.{start_of, terms_sum, Summands}
use Rattle.matrix_terms.proofs.Digits.{log_of, place_of}

-- rows have at most 2 ^ 9 places
pub shift_high : (n : ℕ) → shift n ≤ 9
shift_high n = go (length_of n)
  where
    go : Length n → shift n ≤ 9
    go (one a e f) = omega (arith, f)
    go (two a b e f) = omega (arith, f)
    go (four a e f) = omega (arith, f)

-- ---- one block

-- the rows of the first i terms are summed, in the block from place `at` on
pub record Summing (stride n : ℕ) (terms : List ℕ) (from : ℕ) (t : List ℕ) (at i : ℕ) (sum : List ℕ) : Type 0 where
  pub within : i ≤ weight_in terms
  pub long : length sum ≡ 64
  pub places : (j : ℕ) → j < 64 → place sum j ≡ fold bit_xor 0 i (λ i. place t (start_of stride n terms from i + (at + j)))

-- before the first
pub summing_none : (stride n : ℕ) (terms : List ℕ) (from : ℕ) (t : List ℕ) (at : ℕ) → Summing stride n terms from t at 0 (replicate 64 0)
summing_none stride n terms from t at =
    record { within = zero-le; long = length-replicate {A = ℕ} 64 0; places = λ j l. zero_at 64 j ∙ sym (fold_none bit_xor 0 _) }

module _ {stride n : ℕ} {terms : List ℕ} {from : ℕ} {t : List ℕ} {at i : ℕ} {sum : List ℕ} (h : Summing stride n terms from t at i sum) where
  -- one more
  pub summing_more : {start : ℕ} {sum' : List ℕ} → i < weight_in terms → start ≡ start_of stride n terms from i + at
      → sum' ≡ table 64 (λ j. bit_xor (place sum j) (place t (start + j))) → Summing stride n terms from t at (i + 1) sum'
  summing_more l es e =
      record {
        within = omega arith;
        long = ap length e ∙ table-length 64 _;
        places = λ j d.
            ap (λ (v : List ℕ). place v j) e ∙ table_at 64 _ d
            ∙ fold_step bit_xor 0 i (λ i. place t (start_of stride n terms from i + (at + j))) (h.places j d) (ap (place t) (omega arith));
      }

  -- after the last
  pub summing_end : weight_in terms ≤ i → sum ≡ table 64 (λ j. terms_sum stride n terms from t (at + j))
  unfolding terms_sum
  summing_end l =
      let e : i ≡ weight_in terms = omega (arith, h.within) in
      ext_get_or 0 sum (table 64 (λ j. terms_sum stride n terms from t (at + j))) (h.long ∙ sym (table-length 64 _)) (λ j k.
      let d : j < 64 = subst (λ (m : ℕ). j < m) h.long k in
      h.places j d ∙ ap (λ (i : ℕ). fold bit_xor 0 i (λ i. place t (start_of stride n terms from i + (at + j)))) e
      ∙ sym (table_at 64 (λ j. terms_sum stride n terms from t (at + j)) d))

-- the parts of term i as the code has them: its digits from `shift` on, and those below
module _ {stride span n : ℕ} {terms : List ℕ} {from : ℕ} {t : List ℕ} (ok : Summands stride span n terms from t) (shift : ℕ) (e : 2 ^ shift ≡ stride)
    {i : ℕ} (a : i < weight_in terms) where
  abbrev x : ℕ
  x = place terms (from + i)

  log_is : x / 2 ^ shift ≡ x / stride
  log_is = ap (λ (m : ℕ). x / m) e

  turn_is : bit_and x (stride - 1) ≡ x % stride
  turn_is = ap (λ (m : ℕ). bit_and x (m - 1)) (sym e) ∙ and_mask x shift ∙ ap (λ (m : ℕ). x % m) e

  pub start_is : stride * place terms (64 + x / 2 ^ shift) + (n - bit_and x (stride - 1)) ≡ start_of stride n terms from i
  start_is = ap₂ (λ (k h : ℕ). stride * place terms (64 + k) + (n - h)) log_is turn_is

  -- they are read within the room and the table
  pub log_in : 64 + x / 2 ^ shift < length terms
  log_in = omega (arith, log_is, ok.power_in i a)

  pub turn_in : bit_and x (stride - 1) ≤ n
  turn_in = omega (arith, turn_is, ok.place_lt i a)

  pub start_in : stride * place terms (64 + x / 2 ^ shift) + (n - bit_and x (stride - 1)) + span ≤ length t
  start_in = omega (arith, start_is, ok.start_in i a)

-- ---- all blocks

module _ {stride p n duals : ℕ} {terms : List ℕ} (ok : Terms stride p n duals terms) {l : ℕ} (d : l < duals) where
  -- where the terms of dual word l start
  abbrev from : ℕ
  from = terms_at + 64 * blocks n * l

  -- the symbol of a term is one
  symbol_lt : {i : ℕ} → i < weight_in terms → place terms (64 + term n terms l i / stride) < 2 ^ p
  symbol_lt {i} a =
      let s = ok.sizes in
      let low = ok.log_lt l i d a in
      subst (λ (x : ℕ). x < 2 ^ p) (sym (ok.powers.exp_at _ (omega arith))) (power_below p s.p_low s.p_high (term n terms l i / stride))

  -- the row of each term is in the table
  summands : {span : ℕ} → n + span ≤ stride → {t : List ℕ} → Multiples stride p n t → Summands stride span n terms from t
  summands within m =
      record {
        long = omega (arith, ok.long);
        within = let few : l < 32 = omega (arith, ok.few_duals) in
            omega (arith, ok.long, ok.few, blocks_fit ok.sizes.n_high, rows_apart (64 * blocks n) few);
        power_in = λ i a. let most : 2 ^ p ≤ 64 = pow_mono ok.sizes.p_high in omega (arith, ok.long, ok.log_lt l i d a);
        place_lt = λ i a. ok.place_lt l i d a;
        start_in = λ i a. omega (arith, rows_apart stride (symbol_lt {i = i} a), m.size);
      }

  -- the word b whose terms these are, and the table's word
  module _ {b : ℕ → ℕ} (row : RowOf stride p n l b terms) {t : List ℕ} (m : Multiples stride p n t) where
    laws : FieldLaws (gf p)
    laws = gf_laws p ok.sizes.p_low ok.sizes.p_high

    -- the i-th nonzero place
    abbrev at : ℕ → ℕ
    at = row.turns_of.places.place_at

    -- a term's row is that of its symbol, turned by its place
    at-start : (j : ℕ) {i : ℕ} → i < weight_in terms → place t (start_of stride n terms from i + j) ≡ turned stride n b t j (at i)
    at-start j {i} a =
        let pos = row.turns_of.places.symbol_pos i a in
        let log = ok.powers.log_lt (b (at i)) pos (row.symbol (at i)) in
        ap₂ (λ (c h : ℕ). place t (stride * c + (n - h) + j))
        (ap (λ (e : ℕ). place terms (64 + e)) (log_of ok.fits row.turns_of i a)
        ∙ ok.powers.exp_at (place terms (b (at i))) (omega arith) ∙ ok.powers.log_is (b (at i)) pos (row.symbol (at i)))
        (place_of ok.fits row.turns_of i a)

    -- what the place u adds, where a zero symbol adds nothing
    adds : (j u : ℕ) → j < n → u < n → cond (nonzero (b u)) (turned stride n b t j u) 0 ≡ symbols.product p (b u) (word_of stride n t (j + (n - u)))
    adds j u d l = go (ℕ_discrete (b u) 0)
      where
        go : Dec (b u ≡ 0) → cond (nonzero (b u)) (turned stride n b t j u) 0 ≡ symbols.product p (b u) (word_of stride n t (j + (n - u)))
        go (yes z) =
            ap (λ (t' : Bool). cond (not t') (turned stride n b t j u) 0) (eq-eqb (b u) 0 z)
            ∙ sym (ap (λ (x : ℕ). symbols.product p x (word_of stride n t (j + (n - u)))) z ∙ zero_mul (gf p) laws _)
        go (no z) =
            ap (λ (t' : Bool). cond (not t') (turned stride n b t j u) 0) (ne_eqb (b u) 0 z)
            ∙ ap (place t) (omega arith) ∙ m.multiple (b u) (n - u + j) (row.symbol u) (omega (arith, ok.fits))
            ∙ ap (λ (k : ℕ). symbols.product p (b u) (word_of stride n t k)) (omega arith)

    -- after the last block
    blocks_end : {span : ℕ} {w₀ w : List ℕ} → n ≤ span → n + span ≤ stride → Window 0 span (terms_sum stride n terms from t) w₀ w
        → Multiplied span p n b (word_of stride n t) w
    unfolding product terms_sum
    blocks_end {span} short fits put =
        record {
          symbols = record {
            symbol = λ j d.
                subst (λ (x : ℕ). x < 2 ^ p) (sym (window_at put j d))
                (sum_below (gf p) laws (weight_in terms) _ (λ k e.
                subst (λ (x : ℕ). x < 2 ^ p) (sym (at-start j e)) (turned-symbol j (at k) d (row.turns_of.places.place_lt k e))));
          };
          places = λ j d.
              window_at put j (omega arith)
              ∙ fold_cong bit_xor 0 (weight_in terms) (λ i e. at-start j e)
              ∙ row.turns_of.places.folds bit_xor 0 xor_zero_r (turned stride n b t j)
              ∙ fold_cong bit_xor 0 n (λ u e. adds j u d e);
        }
      where
        -- a place of a turned row is a symbol
        turned-symbol : (j u : ℕ) → j < span → u < n → turned stride n b t j u < 2 ^ p
        turned-symbol j u d l =
            subst (λ (k : ℕ). place t k < 2 ^ p) (omega arith) (m.symbol (b u) (n - u + j) (row.symbol u) (omega arith))

-- the same by the number of blocks that the code has
module _ {p n duals : ℕ} {terms : List ℕ} (ok : Terms (stride n) p n duals terms) {l : ℕ} (d : l < duals) {x : ℕ} (e : x ≡ blocks n)
    {t : List ℕ} (m : Multiples (stride n) p n t) where
  pub row_summands : Summands (128 * x) (64 * x) n terms (terms_at + 64 * x * l) t
  row_summands =
      subst (λ (x : ℕ). Summands (128 * x) (64 * x) n terms (terms_at + 64 * x * l) t) (sym e)
      (summands ok d (omega (arith, blocks_fit ok.sizes.n_high)) m)

  pub row_product : {i : ℕ} {b : ℕ → ℕ} {w₀ w : List ℕ} → i ≤ x → x ≤ i → Window 0 (64 * i) (terms_sum (128 * x) n terms (terms_at + 64 * x * l) t) w₀ w
      → RowOf (stride n) p n l b terms → Multiplied (span n) p n b (word_of (stride n) n t) w
  row_product {i} {w₀ = w₀} {w = w} low high put row =
      let all : i ≡ x = omega arith in
      let fits = blocks_fit ok.sizes.n_high in
      blocks_end ok d row m (omega (arith, fits)) (omega (arith, fits))
      (subst (λ (x : ℕ). Window 0 (64 * x) (terms_sum (128 * x) n terms (terms_at + 64 * x * l) t) w₀ w) e
      (subst (λ (i : ℕ). Window 0 (64 * i) (terms_sum (128 * x) n terms (terms_at + 64 * x * l) t) w₀ w) all put))

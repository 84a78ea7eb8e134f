-- The dual words, counted one after another.
-- Assumes nothing.
use mathlib.Core.Path.{◌≡◌, sym, ap, ap₂, ◌∙◌, fun_ext}
use mathlib.Core.List.{List}
use Prim.Native.Nat.{ℕ, ◌+◌, ◌-◌, ◌*◌, ◌/◌, ◌%◌, ◌^◌, ◌≤◌, ◌<◌}
use native.Mathlib.Nat.{mod-lt, le_trans, mul-le-mul_right, zero-add}
use native.Mathlib.Omega.{arith}
use lib.Arith.{digits_lt, digits_div, digits_mod}
use lib.Dec.{eqb}
use lib.ListN.{length}
use Rattle.spec_range.specs.Fold.{total, indicator}
use Rattle.spec_range.proofs.Fold.{fold_cong}
use Rattle.spec_range.proofs.Count.{count_le, fold_le}
use Rattle.spec_field.specs.Symbols.{gf}
use Rattle.spec_field.proofs.Gf.{gf_laws}
use Rattle.spec_word.specs.Word.{at, product}
use Rattle.spec_word.proofs.Sums.{sum_below}
use Rattle.sizes.specs.Blocks.{span}
use Rattle.sizes.proofs.Lengths.{blocks_fit}
use Rattle.word_array.specs.Stored.{place, Sizes}
use Rattle.word_table.specs.Multiples.{word_of, Multiplied}
use Rattle.word_table.proofs.Tables.{word_of_period, multiplied_at}
use Rattle.matrix_terms.specs.Count.{raised}
use Rattle.matrix_terms.specs.Terms.{Terms, term, TermsOf, weight_in}
use Rattle.matrix_terms.proofs.Raised.{raised_at, raised_same, raised_most, Adding, adding_long, adding_more, adding_end}
use Rattle.matrix_terms.proofs.Whole.{all_le}
use Rattle.matrix_terms.proofs.Received.{order_le}
use Rattle.matrix_scatter.specs.Scatter.{Logged, symbol_row, RowStarts, Started, Offsets, row_at, rows_with, terms_add, Countable}
use Rattle.matrix_scatter.specs.Fill.{Scattering, dual_rows}
use Rattle.matrix_scatter.proofs.Rows.{row_le, start_le}

-- the room has logarithms
pub logged : {stride p n duals : ℕ} {terms : List ℕ} → Terms stride p n duals terms → Logged p terms
logged h = record { long = omega (arith, h.long, order_le h.sizes); log_lt = h.powers.log_lt }

-- a symbol's row, read off its start
unfoldable pub starting_row : ℕ → List ℕ → ℕ → ℕ
starting_row n starts c = place starts c / (n + 1)

-- what dual word l counts in the flat counter k, by the starts of the rows and the table t of the received word
abbrev pub dual_adds : ℕ → ℕ → ℕ → List ℕ → List ℕ → List ℕ → (ℕ → ℕ → ℕ) → ℕ → ℕ → ℕ
dual_adds stride p n terms starts t b k l = dual_rows stride p n terms (starting_row n starts) (word_of stride n t) (b l) l (k / (n + 1)) (k % (n + 1))

-- the dual words below l are counted, whichever they are
pub record CountedTo (stride p n duals : ℕ) (terms starts t counts₀ counts : List ℕ) (l : ℕ) : Type 0 where
  pub counted : (b : ℕ → ℕ → ℕ) → TermsOf stride p n duals b terms → Adding duals (dual_adds stride p n terms starts t b) counts₀ counts l

-- a product has symbols
pub product_symbol : {p n : ℕ} → Sizes p n → (b f : ℕ → ℕ) (m : ℕ) → product (gf p) n b f m < 2 ^ p
unfolding product
product_symbol {p} {n} s b f m = let laws = gf_laws p s.p_low s.p_high in sum_below (gf p) laws n _ (λ u _. laws.mul_below _ _)

-- the rows are those of the logarithms
start-row : {p n : ℕ} {logs starts : List ℕ} → RowStarts p n logs starts → (c : ℕ) → c < 2 ^ p → starting_row n starts c ≡ symbol_row p logs c
unfolding starting_row
start-row {p} {n} {logs} st c l =
    let e : symbol_row p logs c * (n + 1) ≡ symbol_row p logs c * (n + 1) + 0 = omega arith in
    ap (λ (x : ℕ). x / (n + 1)) (st.start c l ∙ e) ∙ digits_div (symbol_row p logs c) {m = n + 1} {r = 0} (omega arith)

-- a term counts at most once
rows_le : (stride p : ℕ) (row : ℕ → ℕ) (weight : ℕ) (turns : ℕ → ℕ) (e j : ℕ) → rows_with stride p row weight turns e j ≤ weight
unfolding rows_with
rows_le stride p row weight turns e j = count_le weight (λ i. eqb (row (turns i % stride + j) + (2 ^ p - 1 - turns i / stride)) e)

module _ {stride p n duals : ℕ} {terms r counts₀ : List ℕ} (ok : Scattering stride p n duals terms r counts₀) {b : ℕ → ℕ → ℕ}
    (h : TermsOf stride p n duals b terms) {starts : List ℕ} (t : List ℕ) (st : RowStarts p n terms starts) where
  s : Sizes p n
  s = h.numbers.sizes

  -- the first l dual words add no more than their terms are
  duals-le : (l k : ℕ) → total l (dual_adds stride p n terms starts t b k) ≤ l * weight_in terms
  unfolding dual_rows
  duals-le l k = fold_le l (weight_in terms) _ (λ i _. rows_le stride p _ (weight_in terms) _ (k / (n + 1)) (k % (n + 1)))

  -- the counters are zero at first
  empty : (k : ℕ) → place counts₀ k ≤ 0
  empty k = omega (arith, ok.cleared.zero_at k)

  module _ {counts : List ℕ} {l : ℕ} (a : Adding duals (dual_adds stride p n terms starts t b) counts₀ counts l) where
    -- by logarithms and the received word
    rows-read : word_of stride n t ≡ at n r → (l e j : ℕ)
        → dual_rows stride p n terms (starting_row n starts) (word_of stride n t) (b l) l e j ≡ dual_rows stride p n terms (symbol_row p terms) (at n r) (b l) l e j
    unfolding dual_rows
    rows-read word l e j =
        ap (λ (f : ℕ → ℕ). rows_with stride p f (weight_in terms) (term n terms l) e j)
        (fun_ext (λ m. start-row st _ (product_symbol s (b l) (word_of stride n t) m)
        ∙ ap (λ (f : ℕ → ℕ). symbol_row p terms (product (gf p) n (b l) f m)) word))

    -- after the last dual word
    pub counter-end : word_of stride n t ≡ at n r → duals ≤ l → (e j : ℕ) → e < 3 * (2 ^ p - 1) + 1 → j < n + 1
        → place counts (e * (n + 1) + j) ≡ total duals (λ l. dual_rows stride p n terms (symbol_row p terms) (at n r) (b l) l e j)
    counter-end word c e j d f =
        ap (λ (x : List ℕ). place x (e * (n + 1) + j)) (adding_end a c)
        ∙ raised_at counts₀ _ (omega (arith, digits_lt {r = j} {c = n + 1} d f, ok.cleared.size))
        ∙ ap₂ (λ (x y : ℕ). x + y) (ok.cleared.zero_at _)
        (fold_cong ◌+◌ 0 duals (λ l _.
        ap₂ (dual_rows stride p n terms (starting_row n starts) (word_of stride n t) (b l) l) (digits_div e f) (digits_mod e f) ∙ rows-read word l e j))
        ∙ zero-add _

    -- no counter is past the number of all terms
    pub counters-most : duals ≤ l → (k : ℕ) → place counts k ≤ 8160
    counters-most c = raised_most counts₀ counts _ (adding_end a c) 8160 8160 empty (λ k. le_trans (duals-le duals k) (all_le h.numbers)) (omega arith)

    module _ (d : l < duals) {w : List ℕ} (mul : Multiplied (span n) p n (b l) (word_of stride n t) w) where
      symbol : (j : ℕ) → j < n → place w j < 2 ^ p
      symbol j c = mul.symbols.symbol j (omega (arith, blocks_fit s.n_high))

      -- the word has offsets
      pub dual-started : Started n starts w
      dual-started =
          record {
            symbol = λ j c. omega (arith, symbol j c, order_le s);
            small = λ j c.
                let e = symbol j c in
                omega (arith, st.start (place w j) e, start_le s (logged h.numbers) (place w j) e);
          }

      module _ {cells₀ cells : List ℕ} (wide : length cells₀ ≡ 512) (off : Offsets n starts w cells₀ cells) where
        word-symbol : (m : ℕ) → at n w m < 2 ^ p
        unfolding at
        word-symbol m = symbol (m % n) (mod-lt m s.n_low)

        cell-is : (m : ℕ) → m < n + n → place cells m ≡ symbol_row p terms (at n w m) * (n + 1) + m
        cell-is m c = off.offset m c ∙ ap (λ (x : ℕ). x + m) (st.start _ (word-symbol m))

        row_is : (m : ℕ) → m < n + n → row_at n cells m ≡ symbol_row p terms (at n w m)
        unfolding row_at
        row_is m c =
            let e : place cells m - m ≡ symbol_row p terms (at n w m) * (n + 1) + 0 = omega (arith, cell-is m c) in
            ap (λ (x : ℕ). x / (n + 1)) e ∙ digits_div (symbol_row p terms (at n w m)) {m = n + 1} {r = 0} (omega arith)

        -- and its terms can be counted
        pub dual-countable : Countable stride l p n cells terms counts
        dual-countable =
            let x = h.numbers in
            record {
              sizes = s;
              eights = ok.eights;
              low = omega (arith, x.few_duals);
              few = x.few;
              cells_long = omega (arith, off.long, s.n_high);
              row_le = λ m c. omega (arith, row_is m c, row_le (logged x) (at n w m) (word-symbol m));
              cell_at = λ m c. cell-is m c ∙ ap (λ (x : ℕ). x * (n + 1) + m) (sym (row_is m c));
              terms_long = x.long;
              place_lt = λ i c. x.place_lt l i d c;
              log_lt = λ i c. x.log_lt l i d c;
              size = omega (arith, ok.cleared.size, adding_long a);
              room = raised_most counts₀ counts _ a.added 8160 64900 empty
                  (λ k. le_trans (duals-le l k) (le_trans (mul-le-mul_right (weight_in terms) a.within) (all_le x))) (omega arith);
            }

        -- the rows by the offsets are the rows of the product
        rows_same : (k : ℕ) → terms_add stride l p n cells terms k ≡ dual_adds stride p n terms starts t b k l
        unfolding rows_with dual_rows
        rows_same k =
            fold_cong ◌+◌ 0 (weight_in terms) (λ i c.
            let m = term n terms l i % stride + k % (n + 1) in
            ap (λ (x : ℕ). indicator (eqb (x + (2 ^ p - 1 - term n terms l i / stride)) (k / (n + 1))))
            (row_is m (omega (arith, h.numbers.place_lt l i d c, mod-lt k {m = n + 1} (omega arith)))
            ∙ sym (start-row st _ (word-symbol m)) ∙ ap (starting_row n starts) (multiplied_at s (word_of_period stride n t) mul m)))

        -- one more dual word
        pub dual-more : (counts' : List ℕ) → counts' ≡ raised counts (terms_add stride l p n cells terms)
            → Adding duals (dual_adds stride p n terms starts t b) counts₀ counts' (l + 1)
        dual-more counts' e = adding_more a counts' d (e ∙ raised_same counts (λ k _. rows_same k))

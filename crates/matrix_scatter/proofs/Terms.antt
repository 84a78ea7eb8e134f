-- The terms of a dual word, counted one after another.
-- Assumes nothing.
use mathlib.Core.Path.{◌≡◌, ap, ap₂, ◌∙◌}
use mathlib.Core.List.{List}
use Prim.Native.Nat.{ℕ, ◌+◌, ◌-◌, ◌*◌, ◌/◌, ◌%◌, ◌^◌, ◌≤◌, ◌<◌}
use native.Mathlib.Nat.{add-mul, mul-le-mul, mul-le-mul_right, div-add-mod', mod-eq_of_lt}
use native.Mathlib.Omega.{arith}
use lib.Arith.{digits_lt}
use lib.Dec.{eqb}
use lib.ListN.{length}
use mir.Syntax.{w16}
use mir.Val.{Fits}
use Rattle.spec_range.specs.Fold.{total, indicator}
use Rattle.spec_range.proofs.Fold.{fold_cong}
use Rattle.spec_range.proofs.Count.{count_le}
use Rattle.sizes.specs.Blocks.{blocks, stride, shift}
use Rattle.sizes.proofs.Lengths.{blocks_high, blocks_fit, shift_is}
use Rattle.word_array.specs.Stored.{place}
use Rattle.word_table.proofs.Rows.{rows_apart}
use Rattle.matrix_terms.specs.Count.{raised}
use Rattle.matrix_terms.specs.Terms.{term, terms_at, weight_in}
use Rattle.matrix_terms.proofs.Raised.{raised_same, raised_most, Adding, adding_long, adding_more, adding_end}
use Rattle.matrix_scatter.specs.Scatter.{Within, cell_adds, row_at, rows_with, terms_add, Countable}
use Rattle.matrix_scatter.proofs.Rows.{width_le}
use Rattle.matrix_scatter.proofs.Column.{one_column}

-- the logarithm and the place of term i of dual word l
pub record Parted (stride n l i : ℕ) (terms : List ℕ) (log h : ℕ) : Type 0 where
  pub log_is : log ≡ term n terms l i / stride
  pub place_is : h ≡ term n terms l i % stride

-- as shifts part it
pub parted : {n r s : ℕ} (l i : ℕ) (terms : List ℕ) → r ≡ blocks n → s ≡ shift n → let t = place terms (terms_at + 64 * r * l + i) in
    Fits w16 t → Parted (stride n) n l i terms (t / 2 ^ s) (t - t / 2 ^ s * 2 ^ s % 18446744073709551616)
parted {n} {r} {s} l i terms e f small =
    record { log_is = ap₂ ◌/◌ same wide; place_is = rest ∙ ap₂ ◌%◌ same wide }
  where
    t : ℕ
    t = place terms (terms_at + 64 * r * l + i)

    same : t ≡ term n terms l i
    same = ap (λ (r : ℕ). place terms (terms_at + 64 * r * l + i)) e

    wide : 2 ^ s ≡ stride n
    wide = ap (λ (s : ℕ). 2 ^ s) f ∙ shift_is n

    rest : t - t / 2 ^ s * 2 ^ s % 18446744073709551616 ≡ t % 2 ^ s
    rest = omega (arith, div-add-mod' t (2 ^ s), mod-eq_of_lt {n = t / 2 ^ s * 2 ^ s} {m = 18446744073709551616} (omega (arith, div-add-mod' t (2 ^ s))))

-- 1 where term i counts in the flat counter k
unfoldable pub term_adds : ℕ → ℕ → ℕ → ℕ → List ℕ → List ℕ → ℕ → ℕ → ℕ
term_adds stride l p n cells terms k i =
    let t = term n terms l i in
    indicator (eqb (row_at n cells (t % stride + k % (n + 1)) + (2 ^ p - 1 - t / stride)) (k / (n + 1)))

-- a term counts at most once
terms_le : (stride l p n : ℕ) (cells terms : List ℕ) (i k : ℕ) → total i (term_adds stride l p n cells terms k) ≤ i
unfolding term_adds
terms_le stride l p n cells terms i k =
    count_le i (λ i. eqb (row_at n cells (term n terms l i % stride + k % (n + 1)) + (2 ^ p - 1 - term n terms l i / stride)) (k / (n + 1)))

-- where the terms of a dual word lie
module _ {size l p n r : ℕ} {cells terms counts : List ℕ} (ok : Countable size l p n cells terms counts) (e : r ≡ blocks n) where
  pub row_small : 64 * r * l ≤ 8192
  row_small = mul-le-mul {n₂ = 256} {m₂ = 32} (omega (arith, e, blocks_high n)) (omega (arith, ok.low))

  pub term_in : {i : ℕ} → i < weight_in terms → terms_at + 64 * r * l + i < length terms
  term_in b =
      omega (
        arith,
        ap (λ (r : ℕ). 64 * r * l) e,
        rows_apart (64 * blocks n) ok.low,
        blocks_fit ok.sizes.n_high,
        ok.few,
        ok.terms_long,
      )

module _ {stride l p n : ℕ} {cells terms counts₀ counts : List ℕ} {i : ℕ}
    (ok : Countable stride l p n cells terms counts₀) (a : Adding (weight_in terms) (term_adds stride l p n cells terms) counts₀ counts i) where
  -- after the last term
  pub terms_end : weight_in terms ≤ i → counts ≡ raised counts₀ (terms_add stride l p n cells terms)
  unfolding term_adds rows_with
  terms_end b = adding_end a b

  -- the next term's logarithm and place
  module _ (b : i < weight_in terms) {last log h : ℕ} (e : last ≡ 2 ^ p - 1) (x : Parted stride n l i terms log h) where
    place_lt : h < n
    place_lt = omega (arith, x.place_is, ok.place_lt i b)

    pub log_lt : log < last
    log_lt = omega (arith, x.log_is, ok.log_lt i b)

    -- the place lies in the rows (last - log) by
    pub base-room : h ≤ (last - log) * (n + 1)
    base-room = let c : 1 ≤ last - log = omega (arith, log_lt) in omega (arith, place_lt, mul-le-mul_right (n + 1) c)

    -- which fit
    pub base-small : (last - log) * (n + 1) ≤ 4096
    base-small = width_le ok.sizes 1 (omega (arith, e))

    -- the counter of column j
    column : (j : ℕ) → j < n + 1
        → (last - log) * (n + 1) - h + place cells (h + j) ≡ (row_at n cells (h + j) + (last - log)) * (n + 1) + j
    column j d =
        omega (arith, base-room, ok.cell_at (h + j) (omega (arith, place_lt)), add-mul (row_at n cells (h + j)) (last - log) (n + 1))

    row_lt : (j : ℕ) → j < n + 1 → row_at n cells (h + j) + (last - log) < 3 * (2 ^ p - 1) + 1
    row_lt j d = omega (arith, e, ok.row_le (h + j) (omega (arith, place_lt)))

    -- the term can be counted
    pub term-within : Within cells (h) ((last - log) * (n + 1) - h) (n + 1) counts 65200
    term-within =
        record {
          long = omega (arith, place_lt, ok.cells_long);
          inside = λ j d. omega (arith, column j d, digits_lt (row_lt j d) d, ok.size, adding_long a);
          room = raised_most counts₀ counts _ a.added i 65200 ok.room (λ k. terms_le stride l p n cells terms i k)
              (omega (arith, a.within, ok.few, ok.sizes.n_high));
        }

    -- and is counted
    pub term-more : (counts' : List ℕ)
        → counts' ≡ raised counts (λ k. total (n + 1) (cell_adds cells (h) ((last - log) * (n + 1) - h) k))
        → Adding (weight_in terms) (term_adds stride l p n cells terms) counts₀ counts' (i + 1)
    unfolding term_adds cell_adds
    term-more counts' d =
        adding_more a counts' b
        (d ∙ raised_same counts (λ k _.
        fold_cong ◌+◌ 0 (n + 1) (λ j c. ap (λ (x : ℕ). indicator (eqb x k)) (column j c))
        ∙ one_column (n + 1) (λ j. row_at n cells (h + j) + (last - log)) k (omega arith)
        ∙ ap₂ (λ (h x : ℕ). indicator (eqb (row_at n cells (h + k % (n + 1)) + x) (k / (n + 1)))) x.place_is (ap₂ ◌-◌ e x.log_is)))

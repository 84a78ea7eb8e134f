-- The sum of turned rows as the loop has it after u of `count` places, and what it is where the table is one of multiples.
-- Assumes nothing.
use mathlib.Core.Path.{◌≡◌, refl, sym, ap, ap₂, ◌∙◌, subst}
use mathlib.Core.List.{List}
use Prim.Native.Nat.{ℕ, ◌+◌, ◌-◌, ◌*◌, ◌^◌, ◌≤◌, ◌<◌, zero-le}
use native.Mathlib.Decide.{dec_lt}
use native.Mathlib.Omega.{arith}
use lib.Bits.{bit_xor}
use lib.ListN.{length, replicate, length-replicate, get_or-eq_default}
use lib.Seq.{ext_get_or}
use Rattle.spec_range.specs.Fold.{fold}
use Rattle.spec_range.specs.Table.{table}
use Rattle.spec_range.proofs.Fold.{fold_cong, fold-extend}
use Rattle.spec_range.proofs.Table.{table_at, table-length}
use Rattle.spec_range.proofs.Loop.{fold_none, fold_step, zero_at}
use Rattle.spec_field.specs.Field.{FieldLaws}
use Rattle.spec_field.specs.Symbols.{gf}
use Rattle.spec_field.specs.Symbols as symbols
use Rattle.spec_field.proofs.Laws.{zero_mul}
use Rattle.spec_field.proofs.Gf.{gf_laws}
use Rattle.spec_word.specs.Word.{product}
use Rattle.spec_word.specs.Division.{coefficients}
use Rattle.spec_word.proofs.Product.{product_cong}
use Rattle.spec_word.proofs.Sums.{field_sums}
use Rattle.word_array.specs.Stored.{place, Sizes}
use Rattle.word_table.specs.Multiples.{word_of, Multiples}
use Rattle.word_table.specs.Rows.{turned, turned_sum}
use Rattle.word_table.specs.Window.{Window}
use Rattle.word_table.proofs.Window.{window_at, read_table, cut, cut_low, cut_high}

-- the `size` places from `from` on of the rows of the first u places are summed
pub record Summing (stride size n count from : ℕ) (b : ℕ → ℕ) (t : List ℕ) (u : ℕ) (sum : List ℕ) : Type 0 where
  pub within : u ≤ count
  pub long : length sum ≡ size
  pub at : (j : ℕ) → j < size → place sum j ≡ fold bit_xor 0 u (turned stride n b t (from + j))

-- before the first row
pub summing_none : (stride size n count from : ℕ) (b : ℕ → ℕ) (t : List ℕ) → Summing stride size n count from b t 0 (replicate size 0)
summing_none stride size n count from b t =
    record { within = zero-le; long = length-replicate {A = ℕ} size 0; at = λ j l. zero_at size j ∙ sym (fold_none bit_xor 0 _) }

module _ {stride size n count from : ℕ} {b : ℕ → ℕ} {t : List ℕ} {u : ℕ} {sum : List ℕ} (h : Summing stride size n count from b t u sum) where
  -- a row more
  pub summing_more : {x : ℕ} {sum' : List ℕ} → u < count → x ≡ b u
      → sum' ≡ table size (λ j. bit_xor (place sum j) (place t (stride * x + (n - u) + from + j))) → Summing stride size n count from b t (u + 1) sum'
  summing_more {x} l ex e =
      record {
        within = omega arith;
        long = ap length e ∙ table-length size _;
        at = λ j d.
            read_table _ e d
            ∙ fold_step bit_xor 0 u (turned stride n b t (from + j)) (h.at j d)
            (ap (place t) (omega arith) ∙ ap (λ (x : ℕ). place t (stride * x + (n - u) + (from + j))) ex);
      }

  -- after the last
  pub summing_end : count ≤ u → sum ≡ table size (λ j. turned_sum stride n count b t (from + j))
  unfolding turned_sum
  summing_end l =
      ext_get_or 0 sum (table size (λ j. turned_sum stride n count b t (from + j))) (h.long ∙ sym (table-length size _)) (λ j k.
      let d : j < size = subst (λ (m : ℕ). j < m) h.long k in
      h.at j d ∙ ap (λ (u : ℕ). fold bit_xor 0 u (turned stride n b t (from + j))) (omega (arith, h.within))
      ∙ sym (table_at size (λ j. turned_sum stride n count b t (from + j)) d))

-- ---- over a table of multiples

module _ {stride p n count : ℕ} {b : ℕ → ℕ} {t : List ℕ} (s : Sizes p n) (m : Multiples stride p n t) (within : count ≤ n)
    (st : (u : ℕ) → u < count → b u < 2 ^ p) where
  laws : FieldLaws (gf p)
  laws = gf_laws p s.p_low s.p_high

  term : (j : ℕ) → j < n → (u : ℕ) → u < count → turned stride n b t j u ≡ symbols.product p (cut count b u) (word_of stride n t (j + (n - u)))
  term j d u l =
      ap (place t) (omega arith) ∙ m.multiple (b u) (n - u + j) (st u l) (omega arith)
      ∙ ap₂ (λ (x k : ℕ). symbols.product p x (word_of stride n t k)) (sym (cut_low count b l)) (omega arith)

  -- the sum is the product with the word that has the symbols, and is 0 from place `count` on
  pub turned-product : {a : ℕ → ℕ} → ((u : ℕ) → u < count → b u ≡ a u) → ((u : ℕ) → count ≤ u → u < n → a u ≡ 0)
      → (j : ℕ) → j < n → turned_sum stride n count b t j ≡ product (gf p) n a (word_of stride n t) j
  unfolding turned_sum product
  turned-product {a} same zero j d =
      fold_cong bit_xor 0 count (term j d)
      ∙ sym (fold-extend bit_xor 0 (field_sums (gf p) laws) count n within _ (λ u l.
      ap (λ (x : ℕ). symbols.product p x (word_of stride n t (j + (n - u)))) (cut_high count b l) ∙ zero_mul (gf p) laws _))
      ∙ product_cong (gf p) laws n {a = cut count b} {a' = a} {b = word_of stride n t} {b' = word_of stride n t} (λ u l. whole u l (dec_lt u count)) (λ i. refl) j
    where
      whole : (u : ℕ) → u < n → Dec (u < count) → cut count b u ≡ a u
      whole u l (yes c) = cut_low count b c ∙ same u c
      whole u l (no c) = cut_high count b (omega arith) ∙ sym (zero u (omega arith) l)

  -- the places of such a sum
  pub product_at : {span : ℕ} {a : ℕ → ℕ} {r₀ r : List ℕ} → n ≤ span → ((u : ℕ) → u < count → b u ≡ a u) → ((u : ℕ) → count ≤ u → u < n → a u ≡ 0)
      → Window 0 span (turned_sum stride n count b t) r₀ r → (j : ℕ) → j < n → place r j ≡ product (gf p) n a (word_of stride n t) j
  product_at short same zero h j d = window_at h j (omega arith) ∙ turned-product same zero j d

-- the product of a message of at most `count` symbols and the table's word
pub message-product : {stride span p n count : ℕ} {t r₀ r : List ℕ} (f : List ℕ) → Sizes p n → n ≤ span → Multiples stride p n t → count ≤ n
    → length f ≤ count → ((u : ℕ) → u < count → place f u < 2 ^ p) → Window 0 span (turned_sum stride n count (λ u. place f (0 + u)) t) r₀ r
    → (j : ℕ) → j < n → place r j ≡ product (gf p) n (coefficients f) (word_of stride n t) j
message-product {p = p} f s spanned m within short st =
    product_at s m within (λ u l. subst (λ (k : ℕ). place f k < 2 ^ p) (omega arith) (st u l)) spanned (λ u l. ap (place f) (omega arith))
    (λ u l _. get_or-eq_default f 0 (omega arith))

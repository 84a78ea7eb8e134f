-- The product of a dual word with the generator, by the table of the generator's multiples.
-- Assumes nothing.
use mathlib.Core.Path.{◌≡◌, refl, sym, ap, ◌∙◌}
use mathlib.Core.List.{List}
use Prim.Native.Nat.{ℕ, ◌+◌, ◌*◌, ◌%◌, ◌^◌, ◌≤◌, ◌<◌}
use native.Mathlib.Nat.{mod-eq_of_lt, le_refl, lt_irrefl, add-zero}
use native.Mathlib.Omega.{arith}
use lib.Dec.{eqb}
use lib.ListN.{length}
use Rattle.spec_range.specs.Fold.{fold}
use Rattle.spec_field.specs.Field.{FieldLaws}
use Rattle.spec_field.specs.Symbols.{gf}
use Rattle.spec_field.proofs.Gf.{gf_laws}
use Rattle.spec_word.proofs.Product.{product_cong, product_comm}
use Rattle.sizes.proofs.Lengths.{blocks_fit}
use Rattle.word_array.specs.Stored.{place}
use Rattle.word_table.specs.Multiples.{word_of}
use Rattle.word_table.specs.Window.{Window}
use Rattle.word_table.specs.Rows.{turned_sum}
use Rattle.word_table.proofs.Rows.{rows_apart}
use Rattle.word_table.proofs.Tables.{word_of_period}
use Rattle.word_table.proofs.Sums.{product_at}
use Rattle.spec_book.specs.Layout.{width, dual_at}
use Rattle.book_duals.specs.Duals.{generator_word, dual_word, dual_product, Zeros, Tested, Table}
use Rattle.book_duals.proofs.Places.{dual_period, dual_at_lem}

module _ {bytes t : List ℕ} {stride p n duals l start : ℕ} (h : Tested bytes p n duals) (tab : Table stride bytes p n t) (b : l < duals)
    (e : start ≡ dual_at (width bytes) l + 1) where
  laws : FieldLaws (gf p)
  laws = gf_laws p h.sizes.p_low h.sizes.p_high

  dual-symbol : (j : ℕ) → j < n → place bytes (start + j) < 2 ^ p
  dual-symbol j k = rw e (h.symbol l j b (omega (arith, blocks_fit h.sizes.n_high)))

  -- its row is in the table
  pub dual_row : (j : ℕ) → j < n → stride * place bytes (start + j) + stride ≤ length t
  dual_row j k = omega (arith, rows_apart stride (dual-symbol j k), tab.multiples.size)

  generates : (u : ℕ) → u < n → word_of stride n t u ≡ generator_word n bytes u
  unfolding generator_word
  generates u k = let m : u % n ≡ u = mod-eq_of_lt k in tab.word u k ∙ ap (place bytes) (omega arith)

  -- the sum of its rows is its product with the generator
  product_is : {span : ℕ} {word₀ word : List ℕ} → n ≤ span → Window 0 span (turned_sum stride n n (λ u. place bytes (start + u)) t) word₀ word
      → (j : ℕ) → j < n → place word j ≡ dual_product p n bytes l j
  product_is fits s j k =
      product_at h.sizes tab.multiples (le_refl n) dual-symbol fits (dual_at_lem bytes l e) (λ u a b. absurd (lt_irrefl u (omega arith))) s j k
      ∙ product_comm (gf p) laws n (dual_word n bytes l) (word_of stride n t) (dual_period n bytes l) (word_of_period stride n t) j
      ∙ product_cong (gf p) laws n generates (λ i. refl) j

  pub dual_zeros : {span : ℕ} {word₀ word : List ℕ} → n ≤ span → Window 0 span (turned_sum stride n n (λ u. place bytes (start + u)) t) word₀ word
      → Zeros n (dual_product p n bytes) l 1 word
  unfolding fold
  dual_zeros fits s =
      record {
        zeros = λ j k. ap (λ (x : ℕ). eqb x 0) (product_is fits s j k) ∙ ap (λ (l : ℕ). eqb (dual_product p n bytes l j) 0) (sym (add-zero l));
      }

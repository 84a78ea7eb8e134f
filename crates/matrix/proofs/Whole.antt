-- The whole matrix: what the dual words of an accepted book count is the matrix, and an accepted book has what listing and counting ask.
-- Assumes nothing.
use mathlib.Core.Path.{◌≡◌, refl, sym, ap, subst}
use mathlib.Core.Bool.{◌&&◌}
use mathlib.Core.List.{List}
use Prim.Native.Nat.{ℕ, zero, suc, ◌+◌, ◌-◌, ◌*◌, ◌/◌, ◌%◌, ◌^◌, ◌≤◌, ◌<◌}
use native.Mathlib.Nat.{mod-eq_of_lt}
use native.Mathlib.Decide.{dec_lt}
use native.Mathlib.Omega.{arith}
use lib.Dec.{eqb}
use lib.ListN.{length}
use Rattle.spec_range.specs.Fold.{indicator}
use Rattle.spec_range.proofs.Fold.{fold_cong}
use Rattle.spec_range.proofs.Table.{table_same}
use Rattle.spec_field.specs.Field.{FieldLaws}
use Rattle.spec_field.specs.Symbols.{gf}
use Rattle.spec_field.proofs.Gf.{gf_laws}
use Rattle.spec_word.specs.Word.{nonzero}
use Rattle.sizes.specs.Blocks.{stride}
use Rattle.sizes.proofs.Lengths.{blocks_high}
use Rattle.word_array.specs.Stored as S
use Rattle.spec_book.specs.Book.{Book}
use Rattle.spec_book.specs.Layout.{dual_at, width, duals_in, size_exponent, symbol_digits, field_of, book_of}
use Rattle.spec_book.proofs.Sound.{sound}
use Rattle.spec_book.proofs.Accepting.{Form, short, long, form, dual_apart, Sizes, whole_book, accepted}
use Rattle.book_layout.proofs.Sized.{word_sizes}
use Rattle.matrix_terms.specs.Count.{place_counts, dual_counts, counted}
use Rattle.matrix_terms.specs.Terms.{TermsOf, Filling, dual_of}
use Rattle.matrix_terms.specs.Listed.{Listable}
use Rattle.spec_decoding.specs.Matrix.{check_value, dual_entry, entry_of, matrix_of, matrix}
use Rattle.spec_decoding.proofs.Matrix.{check_product}
use Rattle.matrix.specs.Fill.{Fillable}

-- the matrix by what each dual word counts
by_duals : (p : ℕ) → FieldLaws (gf p) → (B : Book) (r : ℕ → ℕ) → counted p B.n B.dual B.dual_count r ≡ matrix (gf p) B r
unfolding matrix_of entry_of dual_entry check_value counted dual_counts place_counts
by_duals p laws B r =
    table_same (2 ^ p * B.n) (λ k _. fold_cong ◌+◌ 0 B.dual_count (λ l _. fold_cong ◌+◌ 0 B.n (λ h _.
    ap (λ (x : ℕ). indicator (nonzero (B.dual l h) && eqb ((gf p).mul ((gf p).inv (B.dual l h)) x) (k / B.n)))
    (sym (check_product (gf p) laws B (B.dual l) r h (k % B.n))))))

-- a word of 2 ^ s - 1 symbols
steps : (s : ℕ) → 4 ≤ s → s ≤ 8 → (2 ^ s - 1 + 1) % 8 ≡ 0
steps s l h = subst (λ (s : ℕ). (2 ^ s - 1 + 1) % 8 ≡ 0) (omega arith) (above (s - 4) (omega arith))
  where
    above : (k : ℕ) → k ≤ 4 → (2 ^ (4 + k) - 1 + 1) % 8 ≡ 0
    above zero h = refl
    above (suc zero) h = refl
    above (suc (suc zero)) h = refl
    above (suc (suc (suc zero))) h = refl
    above (suc (suc (suc (suc zero)))) h = refl
    above (suc (suc (suc (suc (suc k))))) h = absurd (omega arith)

-- what filling asks, of a word in an array that has symbols only
pub filling : (bytes : List ℕ) {p n duals : ℕ} {terms r m : List ℕ} → TermsOf (stride n) p n duals (dual_of bytes) terms → length r ≡ 255 → S.Stored p 255 r
    → length m ≡ 2 ^ p * n → Filling (stride n) p n duals terms r m
filling bytes {n = n} t size r m =
    record {
      words = dual_of bytes;
      terms_of = t;
      room = omega (arith, blocks_high n);
      word = λ j l. r.symbol j (omega (arith, blocks_high n));
      size = m;
    }

module _ {bytes : List ℕ} {p n duals : ℕ} (ok : Fillable bytes p n duals) where
  fill-sizes : S.Sizes p n
  fill-sizes = rw (ok.p_is, ok.n_is) (word_sizes bytes (accepted bytes ok.accepted).0)

  -- the terms can be listed
  pub listable : Listable bytes p n duals
  unfolding book_of
  listable =
      let w = whole_book bytes (sound bytes ok.accepted) in
      let a = (accepted bytes ok.accepted).1 in
      record {
        sizes = fill-sizes;
        length_is = ok.n_is;
        duals_low = omega (arith, ok.duals_is, w.count_low);
        duals_high = omega (arith, ok.duals_is, w.count_high);
        within = λ l h. within l (omega (arith, ok.duals_is));
        symbol = λ l j h. rw ok.p_is (a.dual_symbols l (rw ok.duals_is at h) j);
        one_weight = λ l h. rw ok.n_is (a.one_weight l (rw ok.duals_is at h));
      }
    where
      -- a record ends where the next one starts, or before
      within : (l : ℕ) → l < duals_in bytes → dual_at (width bytes) l + 1 + n ≤ length bytes
      within l h =
          omega (
            arith,
            dual_apart (width bytes) h,
            (whole_book bytes (sound bytes ok.accepted)).size,
            ok.n_is,
            (accepted bytes ok.accepted).0.n_high,
          )

  -- what its dual words count is the matrix
  pub all_duals : (r : ℕ → ℕ) → counted p n (dual_of bytes) duals r ≡ matrix (field_of bytes) (book_of bytes) r
  unfolding book_of
  all_duals r =
      let s = (accepted bytes ok.accepted).0 in
      rw (ok.p_is, ok.n_is, ok.duals_is) (by_duals (symbol_digits bytes) (gf_laws _ s.p_low s.p_high) (book_of bytes) r)

  -- with 16 symbols or more, n + 1 is a multiple of 8
  pub whole_steps : 4 ≤ p → (n + 1) % 8 ≡ 0
  whole_steps low =
      let s = (accepted bytes ok.accepted).0 in
      rw ok.n_is (steps _ (at_least s.divides s.s_low (dec_lt (size_exponent bytes) (symbol_digits bytes))) s.s_high)
    where
      at_least : size_exponent bytes % symbol_digits bytes ≡ 0 → 2 ≤ size_exponent bytes → Dec (size_exponent bytes < symbol_digits bytes) → 4 ≤ size_exponent bytes
      at_least e some (yes l) = absurd (omega (arith, mod-eq_of_lt l))
      at_least e some (no h) = omega (arith, ok.p_is)

  -- a long word has at most 4 symbols, or 16
  pub whole_few : p ≤ 3 → 64 ≤ n → p ≤ 2
  whole_few few low = go (form bytes)
    where
      s : Sizes bytes
      s = (accepted bytes ok.accepted).0

      go : Form bytes → p ≤ 2
      go (short f w) = omega (arith, ok.n_is, s.short_n f)
      go (long f w) = rw ok.p_is (s.long_few f (rw ok.p_is at few))

-- The dual words of a book's bytes: as words of n symbols, and where their bodies lie.
-- Assumes nothing.
use mathlib.Core.Path.{◌≡◌, ap, ◌∙◌, fun_ext, subst}
use mathlib.Core.List.{List}
use Prim.Native.Nat.{ℕ, ◌+◌, ◌%◌, ◌^◌, ◌≤◌, ◌<◌}
use native.Mathlib.Nat.{mod-lt}
use native.Mathlib.Omega.{arith}
use lib.ListN.{length}
use Rattle.spec_field.specs.Symbols.{gf}
use Rattle.spec_word.proofs.Place.{Word}
use Rattle.sizes.specs.Blocks.{span, stride}
use Rattle.sizes.proofs.Lengths.{blocks_fit}
use Rattle.word_array.specs.Stored.{place}
use Rattle.word_table.specs.Multiples.{Tabled}
use Rattle.spec_book.specs.Layout.{width, dual_at}
use Rattle.spec_book.proofs.Accepting.{dual_apart}
use Rattle.book_duals.specs.Duals.{dual_word, Tested}
use Rattle.book_duals.proofs.Places.{dual_period}
use Rattle.book_alike.specs.Compared.{TableOf}

pub dual_word_lem : {bytes : List ℕ} {p n duals : ℕ} → Tested bytes p n duals → (l : ℕ) → l < duals → Word (gf p) n (dual_word n bytes l)
unfolding dual_word
dual_word_lem {bytes} {n = n} h l b =
    record {
      symbol = λ j. h.symbol l (j % n) b (omega (arith, mod-lt j h.sizes.n_low, blocks_fit h.sizes.n_high));
      period = dual_period n bytes l;
    }

-- its body, where its record starts at `start`
module _ (bytes : List ℕ) (l : ℕ) {start : ℕ} (e : start ≡ dual_at (width bytes) l) where
  pub body_word : (n : ℕ) → (λ (j : ℕ). place bytes (start + 1 + j % n)) ≡ dual_word n bytes l
  unfolding dual_word
  body_word n = fun_ext (λ j. ap (place bytes) (omega arith))

  pub body_start : {duals : ℕ} → dual_at (width bytes) duals ≤ length bytes → l < duals → start + 1 ≤ length bytes
  body_start room b = omega (arith, dual_apart (width bytes) b)

  pub body_room : (n : ℕ) {duals : ℕ} → dual_at (width bytes) duals ≤ length bytes → span n ≤ 1 + width bytes → l < duals
      → start + 1 + span n ≤ length bytes + 1
  body_room n {duals} room spanned b = omega (arith, dual_apart (width bytes) b)

  pub body_symbol : {p n duals : ℕ} → Tested bytes p n duals → l < duals → (j : ℕ) → j + 1 < span n → place bytes (start + 1 + j) < 2 ^ p
  body_symbol {p} t b j k = subst (λ (i : ℕ). place bytes i < 2 ^ p) (omega arith) (t.symbol l j b k)

-- the table made of a dual word's body
pub table_of : (bytes : List ℕ) (l : ℕ) {start : ℕ} {t₀ t : List ℕ} {p n : ℕ} → start ≡ dual_at (width bytes) l
    → Tabled (stride n) p n (λ j. place bytes (start + 1 + j)) t₀ t → TableOf bytes p n l t
table_of bytes l {n = n} e m = record { multiples = m.multiples; word = fun_ext m.word ∙ body_word bytes l e n }

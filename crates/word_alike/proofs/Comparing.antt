-- Two words compared turn by turn, one of them by the table of its multiples, are told alike exactly if they are.
-- Assumes nothing.
use mathlib.Core.Path.{◌≡◌, sym, ap, ap₂, ◌∙◌, subst}
use mathlib.Core.Bool.{true, not, ◌&&◌}
use mathlib.Core.List.{List}
use Prim.Native.Nat.{ℕ, ◌+◌, ◌*◌, ◌%◌, ◌^◌, ◌≤◌, ◌<◌}
use native.Mathlib.Nat.{mod-lt, add_comm, add-mod_right}
use native.Mathlib.Omega.{arith}
use lib.Dec.{eqb}
use lib.ListN.{length}
use Rattle.spec_range.specs.Fold.{any}
use Rattle.spec_range.proofs.Fold.{fold_cong}
use Rattle.spec_field.specs.Symbols.{gf}
use Rattle.spec_field.specs.Field.{FieldLaws}
use Rattle.spec_field.proofs.Gf.{gf_laws}
use Rattle.spec_word.specs.Word.{nonzero}
use Rattle.spec_word.specs.Alike.{is_multiple_of_turn, alike}
use Rattle.spec_word.proofs.Place.{Word}
use Rattle.spec_word.proofs.Alike.{alike_normal}
use Rattle.sizes.specs.Blocks.{span, stride}
use Rattle.sizes.proofs.Lengths.{blocks_fit}
use Rattle.word_array.specs.Stored.{place}
use Rattle.word_table.specs.Multiples.{word_of, Laid}
use Rattle.word_table.proofs.Rows.{rows_apart}
use Rattle.word_table.proofs.Tables.{word_of_period}
use Rattle.word_alike.specs.Compared.{Pair, same_row, turn_ok}

-- d is the word of the bytes from `from` on, twice over
module _ {p n from : ℕ} {bytes t d₀ d : List ℕ} (h : Pair p n bytes from t) (laid : Laid n (span n) (λ j. place bytes (from + j)) 0 d₀ d) where
  abbrev f : ℕ → ℕ
  f j = place bytes (from + j % n)

  laws : FieldLaws (gf p)
  laws = gf_laws p h.sizes.p_low h.sizes.p_high

  fits : n < span n
  fits = blocks_fit h.sizes.n_high

  word : Word (gf p) n f
  word =
      record {
        symbol = λ j. h.symbol (j % n) (omega (arith, mod-lt j h.sizes.n_low, fits));
        period = λ j. ap (λ (i : ℕ). place bytes (from + i)) (add-mod_right j n);
      }

  table-word : Word (gf p) n (word_of (stride n) n t)
  unfolding word_of
  table-word =
      record {
        symbol = λ j. h.multiples.symbol 1 (j % n) laws.one_below (omega (arith, mod-lt j h.sizes.n_low, fits));
        period = word_of_period (stride n) n t;
      }

  read : (k : ℕ) → k < n + n → place d k ≡ f k
  read k l = ap (place d) (omega arith) ∙ laid.twice k l

  -- the row for a symbol of the word
  pub row_fits : (k : ℕ) → k < n → stride n * place d k + stride n ≤ length t
  row_fits k l =
      let small : place d k < 2 ^ p = subst (λ (x : ℕ). x < 2 ^ p) (sym (read k (omega arith))) (word.symbol k) in
      omega (arith, rows_apart (stride n) small, h.multiples.size)

  -- at one turn
  turn_is : (k : ℕ) → k < n → turn_ok (stride n) n d k t ≡ nonzero (f k) && is_multiple_of_turn (gf p) n (f k) k f (word_of (stride n) n t)
  unfolding turn_ok same_row is_multiple_of_turn
  turn_is k l =
      let e : place d k ≡ f k = read k (omega arith) in
      ap₂ ◌&&◌ (ap nonzero e)
      (fold_cong ◌&&◌ true n (λ j b.
      ap₂ eqb (read (k + j) (omega arith) ∙ ap f (add_comm k j))
      (ap (λ (c : ℕ). place t (stride n * c + j)) e ∙ h.multiples.multiple (f k) j (word.symbol k) (omega arith))))

  pub alike_compared : any n (λ k. turn_ok (stride n) n d k t) ≡ alike (gf p) n (λ j. place bytes (from + j % n)) (word_of (stride n) n t)
  alike_compared =
      ap not (fold_cong ◌&&◌ true n (λ k l. ap not (turn_is k l))) ∙ sym (alike_normal (gf p) laws n h.sizes.n_low word table-word h.first)

-- What an accepted book gives to the code that reads it: words held in arrays, by the parameters that were read off it.
-- Assumes nothing.
use mathlib.Core.Path.{◌≡◌, sym, ap, ◌∙◌, fun_ext}
use mathlib.Core.List.{List}
use Prim.Native.Nat.{ℕ, ◌*◌, ◌%◌, ◌^◌, ◌≤◌, ◌<◌}
use native.Mathlib.Nat.{mod-lt, mod-eq_of_lt}
use native.Mathlib.Omega.{arith}
use Rattle.spec_range.specs.Table.{table}
use Rattle.spec_range.proofs.Table.{table_at}
use Rattle.spec_field.specs.Field.{FieldOps}
use Rattle.spec_field.specs.Symbols.{gf}
use Rattle.spec_word.specs.Word.{at}
use Rattle.spec_word.specs.Division.{coefficients, all_zero, remainder, divides}
use Rattle.spec_word.proofs.Unique.{remainder_same}
use Rattle.word_array.specs.Stored as S
use Rattle.word_array.specs.Stored.{place, Stored}
use Rattle.spec_book.specs.Book.{Book, remainder_by, is_code_word}
use Rattle.spec_book.specs.Layout.{generator_at, body_place, symbol_digits, field_of, book_of}
use Rattle.spec_book.specs.Conditions.{refusal}
use Rattle.spec_book.proofs.Known.{book_sizes, book_accepted, book_laws, n_word_length, n_pos}
use Rattle.word_table.specs.Multiples.{word_of}
use Rattle.sizes.specs.Blocks.{stride}
use Rattle.word_divide.specs.Window.{Remains}
use Rattle.word_divide.proofs.Degree.{remainder_by_lem}
use Rattle.word_divide.proofs.Dividing.{remains_test}
use Rattle.book.specs.Params.{Tabulated, Describes}
use Rattle.book.specs.declared.Params.{Params}
use Rattle.book_layout.proofs.Sized.{word_sizes}
use Rattle.book.proofs.Reading.{generator_at_lem}
use Rattle.book.proofs.Rooms.{matrix_most}

module _ (bytes : List ℕ) (e : refusal bytes ≡ 0) where
  abbrev F : FieldOps
  F = field_of bytes

  abbrev B : Book
  B = book_of bytes

  pub array_sizes : S.Sizes (symbol_digits bytes) B.n
  array_sizes = rw (n_word_length bytes e) (word_sizes bytes (book_sizes bytes e))

  -- a word in an array is the word of its list
  pub at_listed : (w : List ℕ) → at B.n (table B.n (place w)) ≡ at B.n w
  unfolding at
  at_listed w = fun_ext (λ j. table_at B.n (place w) (mod-lt j (n_pos bytes e)))

  -- the remainder goes by the symbols of a word, however they are held
  remainder_of : (w : List ℕ) {f : ℕ → ℕ} → ((j : ℕ) → j < B.n → f j ≡ at B.n w j) → remainder_by F B f ≡ remainder_by F B (at B.n w)
  remainder_of w {f} h =
      remainder_same F (book_laws bytes e) B.n B.degree B.generator (book_accepted bytes e).generates f (at B.n w) h

-- ---- by the parameters that were read off the book

module _ (bytes : List ℕ) (c : Params) (d : Describes bytes c) where
  pub params_sizes : S.Sizes c.p c.n
  params_sizes = rw (d.p_is, d.n_is) (array_sizes bytes d.accepted)

  -- a word and a matrix, as the functions below ask for them
  pub params_stored : {w : List ℕ} → Stored (symbol_digits bytes) (book_of bytes).n w → Stored c.p c.n w
  params_stored h = rw (d.p_is, d.n_is) h

  pub params_matrix : {size : ℕ} → size ≡ (field_of bytes).q * (book_of bytes).n → size ≡ 2 ^ c.p * c.n
  params_matrix h = rw (d.p_is, d.n_is) h

  -- what the largest room for a matrix holds
  pub params_room : 2 ^ c.p * c.n ≤ 4080
  params_room = rw (d.p_is, d.n_is, n_word_length bytes d.accepted) (matrix_most bytes (book_sizes bytes d.accepted))

  -- the generator's places, in its body
  pub generator_body_is : (j : ℕ) → j < c.n → body_place bytes generator_at j ≡ (book_of bytes).generator j
  generator_body_is j l = sym (generator_at_lem bytes (omega (arith, d.n_is, n_word_length bytes d.accepted, (book_sizes bytes d.accepted).n_high)))

  -- ---- the table of the generator

  -- what the division by the table asks of the degree
  pub degree_low : 1 ≤ c.degree
  degree_low = omega (arith, d.degree_is, (book_accepted bytes d.accepted).generates.degree_pos)

  pub degree_high : c.degree < c.n
  degree_high = omega (arith, d.n_is, d.degree_is, (book_accepted bytes d.accepted).generates.degree_lt)

  module _ {t : List ℕ} (h : Tabulated bytes c.p c.n t) where
    -- its word is the generator
    pub word_is : (j : ℕ) → word_of (stride c.n) c.n t j ≡ (book_of bytes).generator (j % c.n)
    word_is j = h.word j ∙ generator_body_is (j % c.n) (mod-lt j params_sizes.n_low)

    pub word_low : (i : ℕ) → i < c.degree → word_of (stride c.n) c.n t i ≡ (book_of bytes).generator i
    word_low i l = word_is i ∙ ap (book_of bytes).generator (mod-eq_of_lt (omega (arith, degree_high)))

    -- a word w whose symbols are f's
    module _ (w : List ℕ) {f : ℕ → ℕ} (same : (j : ℕ) → j < c.n → f j ≡ at c.n w j) where
      abbrev R : List ℕ
      R = remainder_by (field_of bytes) (book_of bytes) (at (book_of bytes).n w)

      divided : remainder (gf c.p) c.degree (word_of (stride c.n) c.n t) c.n f ≡ R
      divided =
          remainder_by_lem (gf c.p) c.degree word_low c.n f
          ∙ rw (d.p_is, d.n_is, d.degree_is) (remainder_of bytes d.accepted w (rw d.n_is at same))

      -- an array in which the remainder is left starts with the definition's
      pub remainder-tabulated : {r : List ℕ} → Remains c.p c.n c.degree (word_of (stride c.n) c.n t) f r
          → (i : ℕ) → i < c.degree → place r i ≡ coefficients R i
      remainder-tabulated m i l = m.places i l ∙ ap (λ (R : List ℕ). coefficients R i) divided

      -- it is all zero exactly where the definition has a code word
      pub code-tabulated : {r : List ℕ} → Remains c.p c.n c.degree (word_of (stride c.n) c.n t) f r
          → all_zero c.degree r ≡ is_code_word (field_of bytes) (book_of bytes) (at (book_of bytes).n w)
      unfolding divides
      code-tabulated m = remains_test m ∙ ap (all_zero c.degree) divided ∙ ap (λ (k : ℕ). all_zero k R) d.degree_is

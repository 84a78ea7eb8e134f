-- The generator as the conditions 5 and 6 read it: its degree, its leading coefficient, and the division of x^n - 1 by it.
-- Assumes nothing.
use mathlib.Core.Path.{◌≡◌, sym, ap, ◌∙◌}
use mathlib.Core.List.{List}
use Prim.Native.Nat.{ℕ, suc, ◌+◌, ◌≤◌, ◌<◌}
use native.Mathlib.Nat.{mod-eq_of_lt}
use native.Mathlib.Omega.{arith}
use borrow.Author.Tests.{le-leb, eq-eqb}
use lib.ListN.{length}
use Rattle.spec_field.specs.Symbols.{gf}
use Rattle.spec_word.specs.Division.{divides}
use Rattle.spec_word.specs.CyclicCode.{unity}
use Rattle.spec_book.specs.Layout.{generator_at, body_place, field_of, book_of}
use Rattle.spec_book.specs.Conditions.{generator_ok}
use Rattle.spec_book.proofs.Accepting.{degree_lt}
use Rattle.sizes.specs.Blocks.{stride}
use Rattle.word_table.specs.Multiples.{word_of}
use Rattle.word_divide.proofs.Degree.{divides_by}
use Rattle.book.specs.Opened.{Gathered}
use Rattle.book.specs.declared.Params.{Params}
use Rattle.book.proofs.Reading.{generator_at_lem}

module _ {bytes : List ℕ} {c : Params} {t : List ℕ} (h : Gathered bytes c t) where
  pub degree_below : c.degree < c.n
  unfolding book_of
  degree_below = rw (h.degree_is, h.read.sized.n_is) (degree_lt _ _ (rw h.read.sized.n_is at h.read.sized.n_low))

  pub degree_within : 4 + c.degree ≤ length bytes
  degree_within = omega (arith, degree_below, h.read.sized.n_high, h.read.sized.whole.size)

  pub leading : body_place bytes generator_at c.degree ≡ (book_of bytes).generator (book_of bytes).degree
  leading = sym (generator_at_lem bytes (omega (arith, degree_below, h.read.sized.n_high))) ∙ ap (book_of bytes).generator h.degree_is

  -- the symbols below the leading one
  lower : (i : ℕ) → i < c.degree → word_of (stride c.n) c.n t i ≡ (book_of bytes).generator i
  lower i l =
      h.table.word i ∙ ap (body_place bytes generator_at) (mod-eq_of_lt (omega (arith, degree_below)))
      ∙ sym (generator_at_lem bytes (omega (arith, degree_below, h.read.sized.n_high)))

  -- where the degree and the leading coefficient are right, the division decides
  pub unity_decides : 1 ≤ c.degree → body_place bytes generator_at c.degree ≡ 1
      → divides (gf c.p) c.degree (word_of (stride c.n) c.n t) (suc c.n) (unity c.n) ≡ generator_ok (field_of bytes) (book_of bytes)
  unfolding generator_ok book_of
  unity_decides low one =
      rw (eq-eqb _ 1 (sym leading ∙ one), ← h.degree_is, le-leb 1 c.degree low)
      (divides_by (gf c.p) c.degree lower _ _ ∙ rw (h.read.p_is, h.read.sized.n_is))

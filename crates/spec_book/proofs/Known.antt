-- What is known of bytes that are accepted: the sizes, the field's laws, and the book that they hold.
-- Assumes nothing.
use mathlib.Core.Path.{◌≡◌, refl}
use mathlib.Core.Bool.{false}
use mathlib.Core.List.{List}
use Prim.Native.Nat.{ℕ, ◌≤◌, ◌<◌}
use native.Mathlib.Omega.{arith}
use lib.Dec.{leb→le}
use Rattle.spec_range.proofs.Tests.{and_left, and_right}
use Rattle.spec_field.specs.Field.{FieldOps, FieldLaws}
use Rattle.spec_field.proofs.Gf.{gf_laws}
use Rattle.spec_book.specs.Book.{Book, Usable}
use Rattle.spec_book.specs.Layout.{is_long, symbol_digits, word_length, field_of, book_of}
use Rattle.spec_book.specs.Conditions.{limits_ok, refusal}
use Rattle.spec_book.proofs.Sound.{sound}
use Rattle.spec_book.proofs.Accepting.{Sizes, width_high, whole_book, accepted}

module _ (bytes : List ℕ) (e : refusal bytes ≡ 0) where
  abbrev F : FieldOps
  F = field_of bytes

  abbrev B : Book
  B = book_of bytes

  pub book_sizes : Sizes bytes
  book_sizes = (accepted bytes e).0

  pub book_accepted : Usable F B
  book_accepted = (accepted bytes e).1

  pub book_laws : FieldLaws F
  book_laws = gf_laws (symbol_digits bytes) book_sizes.p_low book_sizes.p_high

  pub n_word_length : B.n ≡ word_length bytes
  unfolding book_of
  n_word_length = refl

  pub n_pos : 0 < B.n
  n_pos = omega (arith, n_word_length, book_sizes.n_low)

  pub n_high : B.n ≤ 255
  n_high = omega (arith, n_word_length, book_sizes.n_high, width_high bytes)

  pub n_high_short : is_long bytes ≡ false → B.n ≤ 63
  n_high_short f = omega (arith, n_word_length, book_sizes.short_n f)

  -- there are at most 32 dual words
  pub duals_high : B.dual_count ≤ 32
  unfolding book_of
  duals_high = (whole_book bytes (sound bytes e)).count_high

  -- at least one round may be made
  pub some_rounds : 1 ≤ B.most_rounds
  unfolding limits_ok
  some_rounds = let t = (sound bytes e).limits_ok in leb→le 1 B.most_rounds (search (and_left, and_right) depth 5)

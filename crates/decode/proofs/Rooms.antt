-- The rooms that a book asks, by its form and by whether its symbols are few.
-- Assumes nothing.
use mathlib.Core.Path.{◌≡◌, refl, ap, ◌∙◌}
use mathlib.Core.Bool.{true, false}
use mathlib.Core.List.{List}
use Prim.Native.Nat.{ℕ, ◌+◌, ◌*◌, ◌≤◌}
use native.Mathlib.Omega.{arith}
use Rattle.sizes.specs.Blocks.{blocks, span}
use Rattle.sizes.proofs.Lengths.{blocks_high}
use Rattle.spec_book.specs.Layout.{is_long, book_of}
use Rattle.spec_book.specs.Conditions.{refusal}
use Rattle.spec_book.proofs.Known.{book_sizes, n_word_length}
use Rattle.book_layout.proofs.Sized.{short_block}
use Rattle.book.specs.Opened.{few_symbols}
use Rattle.book.proofs.Rooms.{few_room, long_few_room, any_room}
use Rattle.matrix_terms.specs.Terms.{terms_at}
use Rattle.decode_rounds.specs.Rounds.{RoomsFit}

module _ (bytes : List ℕ) where
  short_terms : is_long bytes ≡ false → refusal bytes ≡ 0 → terms_at + span (book_of bytes).n * 32 ≤ 2240
  short_terms f e =
      let one : blocks (book_of bytes).n ≡ 1 = ap blocks (n_word_length bytes e) ∙ short_block bytes (book_sizes bytes e) f in
      omega (arith, one)

  any_terms : refusal bytes ≡ 0 → terms_at + span (book_of bytes).n * 32 ≤ 8384
  any_terms e = omega (arith, blocks_high (book_of bytes).n)

  pub short_few : is_long bytes ≡ false → few_symbols bytes ≡ true → RoomsFit bytes 2240 1024
  short_few f s =
      record { terms_fit = short_terms f; terms_most = omega arith; table_fits = few_room bytes s f refl; table_most = omega arith }

  pub short_any : is_long bytes ≡ false → RoomsFit bytes 2240 8192
  short_any f = record { terms_fit = short_terms f; terms_most = omega arith; table_fits = any_room bytes refl; table_most = omega arith }

  pub long_few : few_symbols bytes ≡ true → RoomsFit bytes 8384 4096
  long_few s = record { terms_fit = any_terms; terms_most = omega arith; table_fits = long_few_room bytes s refl; table_most = omega arith }

  pub long_any : RoomsFit bytes 8384 8192
  long_any = record { terms_fit = any_terms; terms_most = omega arith; table_fits = any_room bytes refl; table_most = omega arith }

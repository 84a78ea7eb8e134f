-- The rooms of a game are large enough for the book that they are chosen for.
-- Assumes nothing.
use mathlib.Core.Path.{◌≡◌, ap}
use mathlib.Core.Bool.{true, false}
use mathlib.Core.List.{List}
use Prim.Native.Nat.{ℕ, ◌*◌, ◌^◌, ◌≤◌}
use native.Mathlib.Nat.{mul-le-mul, le_trans, le_of_eq}
use native.Mathlib.Omega.{arith}
use borrow.Author.Tests.{ltb-true}
use lib.ListN.{replicate, length-replicate}
use lib.Pow.{pow_mono}
use Rattle.spec_book.specs.Layout.{is_long, symbol_digits, field_of, book_of}
use Rattle.spec_book.specs.Conditions.{refusal}
use Rattle.spec_book.proofs.Known.{book_sizes, n_word_length, n_high}
use Rattle.spec_operations.specs.Decoding.{matrix_size}
use Rattle.book.specs.Opened.{few_symbols}
use Rattle.book.proofs.Rooms.{matrix_most}
use Rattle.decode.proofs.Rooms as decoding
use Rattle.game.specs.Rooms.{MatrixRoom, AnswersRoom, GameFits}

module _ (bytes : List ℕ) where
  any_matrix : refusal bytes ≡ 0 → matrix_size bytes ≤ 4080
  any_matrix e =
      le_trans (le_of_eq (ap (λ (n : ℕ). (field_of bytes).q * n) (n_word_length bytes e))) (matrix_most bytes (book_sizes bytes e))

  few_rows : few_symbols bytes ≡ true → 2 ^ symbol_digits bytes ≤ 8
  few_rows f =
      let low = ltb-true (symbol_digits bytes) 4 f in
      let high : symbol_digits bytes ≤ 3 = omega arith in
      let q : 2 ^ symbol_digits bytes ≤ 2 ^ 3 = pow_mono high in
      q

  few_matrix : few_symbols bytes ≡ true → refusal bytes ≡ 0 → matrix_size bytes ≤ 2040
  few_matrix f e = mul-le-mul (few_rows f) (n_high bytes e)

  short_word : is_long bytes ≡ false → refusal bytes ≡ 0 → (book_of bytes).n ≤ 63
  short_word f e = omega (arith, n_word_length bytes e, (book_sizes bytes e).short_n f)

  any_answers : refusal bytes ≡ 0 → (book_of bytes).n * 16 ≤ 4080
  any_answers e = omega (arith, n_high bytes e)

  short_answers : is_long bytes ≡ false → refusal bytes ≡ 0 → (book_of bytes).n * 16 ≤ 1008
  short_answers f e = omega (arith, short_word f e)

  pub short_few : is_long bytes ≡ false → few_symbols bytes ≡ true → GameFits bytes 2240 1024 1008 504
  short_few f s =
      record {
        rooms_fit = decoding.short_few bytes f s;
        places_fit = short_answers f;
        places_most = omega arith;
        entries_fit = λ e. mul-le-mul (few_rows s) (short_word f e);
        entries_most = omega arith;
      }

  pub short_any : is_long bytes ≡ false → GameFits bytes 2240 8192 1008 4080
  short_any f =
      record {
        rooms_fit = decoding.short_any bytes f;
        places_fit = short_answers f;
        places_most = omega arith;
        entries_fit = any_matrix;
        entries_most = omega arith;
      }

  pub long_few : few_symbols bytes ≡ true → GameFits bytes 8384 4096 4080 2040
  long_few s =
      record {
        rooms_fit = decoding.long_few bytes s;
        places_fit = any_answers;
        places_most = omega arith;
        entries_fit = few_matrix s;
        entries_most = omega arith;
      }

  pub long_any : GameFits bytes 8384 8192 4080 4080
  long_any =
      record {
        rooms_fit = decoding.long_any bytes;
        places_fit = any_answers;
        places_most = omega arith;
        entries_fit = any_matrix;
        entries_most = omega arith;
      }

module _ {bytes : List ℕ} {terms table places entries : ℕ} (h : GameFits bytes terms table places entries) where
  pub answers_room : AnswersRoom bytes (replicate places 0)
  answers_room = record { answers_long = λ e. omega (arith, h.places_fit e, length-replicate {A = ℕ} places 0) }

  pub matrix_room : MatrixRoom bytes (replicate entries 0)
  matrix_room = record { matrix_long = λ e. omega (arith, h.entries_fit e, length-replicate {A = ℕ} entries 0) }

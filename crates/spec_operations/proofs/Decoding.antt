-- Which inputs decode takes once the book is accepted, and that its answers are words, code words where one was reached.
-- Assumes nothing.
use mathlib.Core.Path.{◌≡◌, subst}
use mathlib.Core.List.{List}
use Prim.Native.Nat.{ℕ, ◌%◌, ◌<◌}
use native.Mathlib.Nat.{mod-lt}
use lib.Dec.{T, eqb}
use Rattle.spec_range.proofs.Tests.{eq→eqb, and_both, cond_true}
use Rattle.spec_field.specs.Field.{FieldOps}
use Rattle.spec_word.specs.Word.{IsWord, at}
use Rattle.spec_word.proofs.Place.{SymbolList, at_lt}
use Rattle.spec_book.specs.Book.{Book, is_code_word}
use Rattle.spec_book.specs.Layout.{field_of, book_of}
use Rattle.spec_book.specs.Conditions.{refusal}
use Rattle.spec_book.proofs.Known.{n_pos}
use Rattle.spec_book.proofs.Inputs.{word_input, input_accepted}
use Rattle.spec_decoding.specs.Matrix.{matrix}
use Rattle.spec_decoding.specs.Decode.{clean, result, zero_matrix, decode_with}
use Rattle.spec_decoding.proofs.Matrix.{matrix-length}
use Rattle.spec_decoding.proofs.Outcome.{Sound, decode-sound}
use Rattle.spec_decoding.proofs.Demand3.{answer_word}
use Rattle.spec_operations.specs.Decoding.{matrix_size, decode_input_refusal, decode_bytes}

-- a word of n symbols, with outputs of the exact sizes
pub decode_taken : (bytes r : List ℕ) (room entries : ℕ) → IsWord (field_of bytes) (book_of bytes).n r → room ≡ (book_of bytes).n → entries ≡ matrix_size bytes
    → decode_input_refusal bytes r room entries ≡ 0
unfolding decode_input_refusal
decode_taken bytes r room entries h hr he =
    input_accepted (word_input h (and_both (eqb room (book_of bytes).n) (eqb entries (matrix_size bytes)) (eq→eqb hr) (eq→eqb he)))

module _ (bytes : List ℕ) where
  abbrev F : FieldOps
  F = field_of bytes

  abbrev B : Book
  B = book_of bytes

  -- ---- words of an accepted book, in the two forms that they have in proofs

  module _ (e : refusal bytes ≡ 0) where
    pub symbol-list : {w : List ℕ} → IsWord F B.n w → SymbolList F B.n w
    unfolding at
    symbol-list h = record { exact = h.size; symbols = λ j. h.symbol (j % B.n) (mod-lt j (n_pos bytes e)) }

    pub is_word : {w : List ℕ} → SymbolList F B.n w → IsWord F B.n w
    is_word {w} h = record { size = h.exact; symbol = λ j l. subst (λ (s : ℕ). s < F.q) (at_lt B.n w l) (h.symbols j) }

    -- the answer to a word is a word
    pub answers-word : {r : List ℕ} → IsWord F B.n r → IsWord F B.n (decode_bytes bytes r).answer
    answers-word {r} h = is_word (answer_word bytes e r (symbol-list h))

  -- ---- the outcome

  pub sound : (r : List ℕ) → Sound F B r B.most_rounds (decode_bytes bytes r)
  sound r = decode-sound F B (matrix F B) (matrix-length F B _) r

  -- a code word is Clean, and its own answer
  pub decodes_clean : (r : List ℕ) → T (is_code_word F B (at B.n r)) → decode_bytes bytes r ≡ result F B clean 0 r r (zero_matrix F B)
  unfolding decode_with
  decodes_clean r t = cond_true (is_code_word F B (at B.n r)) _ _ t

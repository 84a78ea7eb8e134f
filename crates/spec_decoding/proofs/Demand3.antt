-- Demand 3 of the definitions over GF(2^p), for every codebook whose bytes are not refused.
-- Assumes nothing.
use mathlib.Core.Path.{◌≡◌, refl}
use mathlib.Core.List.{List}
use Prim.Native.Nat.{ℕ, ◌<◌}
use lib.Dec.{T}
use Rattle.spec_field.specs.Field.{FieldOps}
use Rattle.spec_field.proofs.Gf.{gf_laws}
use Rattle.spec_word.specs.Word.{at}
use Rattle.spec_word.proofs.Place.{SymbolList}
use Rattle.spec_book.specs.Book.{Book, is_code_word}
use Rattle.spec_book.specs.Layout.{symbol_digits, field_of, book_of}
use Rattle.spec_book.specs.Conditions.{refusal}
use Rattle.spec_book.proofs.Accepting.{accepted}
use Rattle.spec_book.proofs.Known.{n_pos}
use Rattle.spec_decoding.specs.Matrix.{matrix_of, matrix}
use Rattle.spec_decoding.specs.Decode.{decode_with, decode}
use Rattle.spec_decoding.specs.Symmetry.{move, Moved}
use Rattle.spec_decoding.proofs.Matrix.{MovedAmounts}
use Rattle.spec_decoding.proofs.Decode.{decode-answer}
use Rattle.spec_decoding.proofs.Symmetry.{move-symbols, symmetry-amounts}

module _ (bytes : List ℕ) (e : refusal bytes ≡ 0) where
  abbrev F : FieldOps
  F = field_of bytes

  abbrev B : Book
  B = book_of bytes

  -- the moved word is a word
  pub moved_word : (t c : ℕ) → 0 < c → c < F.q
      → (v : List ℕ) → SymbolList F B.n v → T (is_code_word F B (at B.n v))
      → (r : List ℕ) → SymbolList F B.n (move F B.n t c v r)
  moved_word =
      let ok = accepted bytes e in
      move-symbols F (gf_laws (symbol_digits bytes) ok.0.p_low ok.0.p_high) B ok.1

  -- and so is every answer
  pub answer_word : (r : List ℕ) → SymbolList F B.n r → SymbolList F B.n (decode F B r).answer
  answer_word r h =
      let ok = accepted bytes e in
      let laws = gf_laws (symbol_digits bytes) ok.0.p_low ok.0.p_high in
      decode-answer F laws B (n_pos bytes e) (matrix F B) r h

  -- whatever the choices add, as long as what they add moves along
  pub demand_3_amounts : (t c : ℕ) → 0 < c → c < F.q
      → (v : List ℕ) → SymbolList F B.n v → T (is_code_word F B (at B.n v))
      → (amount amount' : ℕ → ℕ → ℕ → ℕ) → MovedAmounts B t amount amount'
      → (r : List ℕ) → SymbolList F B.n r
      → Moved F B t c v (decode_with F B (matrix_of F B amount) r) (decode_with F B (matrix_of F B amount') (move F B.n t c v r))
  demand_3_amounts =
      let ok = accepted bytes e in
      symmetry-amounts F (gf_laws (symbol_digits bytes) ok.0.p_low ok.0.p_high) B ok.1

  -- each choice adds 1
  pub demand_3 : (t c : ℕ) → 0 < c → c < F.q
      → (v : List ℕ) → SymbolList F B.n v → T (is_code_word F B (at B.n v))
      → (r : List ℕ) → SymbolList F B.n r
      → Moved F B t c v (decode F B r) (decode F B (move F B.n t c v r))
  demand_3 t c c_pos hc v hv code = demand_3_amounts t c c_pos hc v hv code (λ l h j. 1) (λ l h j. 1) (λ l hl h hh j hj. refl)

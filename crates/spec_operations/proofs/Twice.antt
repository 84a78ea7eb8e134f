-- Demand 3, from what two calls of decode ensure and the symmetry of the definitions.
-- Assumes nothing.
use mathlib.Core.Path.{◌≡◌, refl, sym, ap, ◌∙◌}
use mathlib.Core.List.{List}
use Prim.Native.Nat.{ℕ}
use Rattle.spec_field.specs.Answer.{Answer, answer, left}
use Rattle.spec_field.proofs.Refusals.{found_next}
use Rattle.spec_word.specs.Word.{IsWord}
use Rattle.spec_word.proofs.Place.{SymbolList}
use Rattle.spec_book.specs.Layout.{field_of, book_of}
use Rattle.spec_book.specs.Conditions.{refusal}
use Rattle.spec_decoding.specs.Decode.{Result}
use Rattle.spec_decoding.specs.Symmetry.{Moved}
use Rattle.spec_decoding.proofs.Demand3.{moved_word, demand_3}
use Rattle.spec_operations.specs.Decoding.{matrix_size, decode_input_refusal, decode_refusal, decode_bytes, values, Decodes}
use Rattle.spec_operations.proofs.Decoding.{decode_taken, symbol-list, is_word}
use Rattle.spec_operations.specs.Twice.{Given, Shows, Related}

-- ---- a call that is not refused

module _ (bytes : List ℕ) (e : refusal bytes ≡ 0) where
  not_refused : (r : List ℕ) (room entries : ℕ) → IsWord (field_of bytes) (book_of bytes).n r → room ≡ (book_of bytes).n → entries ≡ matrix_size bytes
      → decode_refusal bytes r room entries ≡ 0
  unfolding decode_refusal
  not_refused r room entries h hr he =
      sym (found_next 0 (refusal bytes) (decode_input_refusal bytes r room entries) (sym e) refl) ∙ decode_taken bytes r room entries h hr he

-- what a call that is not refused answers and leaves
module _ {number : ℕ} {x : Result} {word₀ entries₀ word entries : List ℕ} {a : Answer} (z : number ≡ 0) (h : Decodes number x word₀ entries₀ a word entries) where
  shows : (bytes : List ℕ) → Shows bytes x a word entries
  shows bytes =
      record {
        answers = h.says ∙ ap (λ (n : ℕ). answer n (values x)) z;
        answer_is = h.answer_buffer ∙ ap (λ (n : ℕ). left n x.answer word₀) z;
        entries_is = h.matrix_buffer ∙ ap (λ (n : ℕ). left n x.entries entries₀) z;
      }

-- ---- two calls

pub related : (bytes : List ℕ) {r r' word₀ entries₀ word₀' entries₀' word entries word' entries' : List ℕ} {a a' : Answer} (room size room' size' : ℕ)
    → Decodes (decode_refusal bytes r room size) (decode_bytes bytes r) word₀ entries₀ a word entries
    → Decodes (decode_refusal bytes r' room' size') (decode_bytes bytes r') word₀' entries₀' a' word' entries'
    → (t c : ℕ) (v : List ℕ) → Given bytes t c v r r' room size room' size' → Related bytes t c v a a' word word' entries entries'
related bytes {r} {r'} room size room' size' first second t c v g =
    record { x = x; x' = x'; first = shows z first bytes; second = shows z' second bytes; moved = moved }
  where
    x : Result
    x = decode_bytes bytes r

    x' : Result
    x' = decode_bytes bytes r'

    moved : Moved (field_of bytes) (book_of bytes) t c v x x'
    moved =
        rw g.moved
        (demand_3 bytes g.accepted t c g.nonzero g.symbol v (symbol-list bytes g.accepted g.added) g.code r
        (symbol-list bytes g.accepted g.word))

    second_word : SymbolList (field_of bytes) (book_of bytes).n r'
    second_word =
        rw g.moved (moved_word bytes g.accepted t c g.nonzero g.symbol v (symbol-list bytes g.accepted g.added) g.code r)

    z : decode_refusal bytes r room size ≡ 0
    z = not_refused bytes g.accepted r room size g.word g.answer_size g.entries_size

    z' : decode_refusal bytes r' room' size' ≡ 0
    z' =
        not_refused bytes g.accepted r' room' size' (is_word bytes g.accepted second_word) g.answer-size' g.entries-size'

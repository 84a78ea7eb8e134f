-- What holds of two calls over C, from what each returns and leaves: by the laws about the answers that are packed in the numbers.
-- Assumes nothing.
use mathlib.Core.Path.{◌≡◌, refl, sym, ap, ◌∙◌}
use mathlib.Core.List.{List, []}
use Prim.Native.Nat.{ℕ, ◌%◌}
use Rattle.spec_field.specs.Answer.{Answer, answer, done, left}
use Rattle.spec_book.specs.Book.{message_length}
use Rattle.spec_book.specs.Layout.{field_of, book_of}
use Rattle.spec_coding.specs.Coder.{written_out}
use Rattle.spec_decoding.specs.Decode.{Result}
use Rattle.spec_decoding.specs.Symmetry.{move}
use Rattle.spec_operations.specs.Packed.{result_of, Returns}
use Rattle.spec_operations.specs.Wrote.{Wrote}
use Rattle.spec_operations.specs.Coding.{code_refusal, coded, read_refusal, message_of}
use Rattle.spec_operations.specs.Remainder.{remainder_refusal, remainder_of, GivenTwo, Sorted}
use Rattle.spec_operations.specs.Decoding.{matrix_size, decode_refusal, decode_bytes, values, Decodes}
use Rattle.spec_operations.specs.Trips.{GivenBack}
use Rattle.spec_operations.specs.Twice.{Given, Related}
use Rattle.spec_operations.specs.Short.{GivenWrittenOut}
use Rattle.spec_operations.specs.OverC.{GivenBackOverC, RelatedOverC, SortedOverC, SameWordOverC}
use Rattle.spec_operations.proofs.Packed.{number_result, done_lowest}
use Rattle.spec_operations.proofs.Trips as trips
use Rattle.spec_operations.proofs.Twice as twice
use Rattle.spec_operations.proofs.Short as short
use Rattle.spec_operations.proofs.Remainder as remainders

-- ---- from the answers a and a' to the numbers r and r' that they are packed in

module _ {a a' : Answer} {r r' : ℕ} (e : r ≡ result_of a) (e' : r' ≡ result_of a') where
  back-over-c : {given back : List ℕ} → GivenBack a a' given back → GivenBackOverC r r' given back
  back-over-c h = record { first_done = e ∙ ap result_of h.first_done; second_done = e' ∙ ap result_of h.second_done; given_back = h.given_back }

  moved-over-c : {bytes : List ℕ} {t c : ℕ} {v word word' entries entries' : List ℕ} → Related bytes t c v a a' word word' entries entries'
      → RelatedOverC bytes t c v r r' word word'
  moved-over-c {bytes} {t} {c} {v} h =
      record {
        not_refused = ap (λ (n : ℕ). n % 256) first ∙ done_lowest (values h.x);
        same_number = e' ∙ ap result_of (h.second.answers ∙ ap done same-values) ∙ sym first;
        moved_answer = h.second.answer_is ∙ h.moved.moved_answer ∙ ap (move (field_of bytes) (book_of bytes).n t c v) (sym h.first.answer_is);
      }
    where
      first : r ≡ result_of (done (values h.x))
      first = e ∙ ap result_of h.first.answers

      same-values : values h.x' ≡ values h.x
      same-values = rw (h.moved.same_kind, h.moved.same_rounds, h.moved.same_changed) refl

  sorted-over-c : {bytes w w' R R' : List ℕ} → Sorted bytes w w' a a' R R' → SortedOverC bytes w w' r r' R R'
  sorted-over-c h =
      record {
        first_done = e ∙ ap result_of h.first_done;
        second_done = e' ∙ ap result_of h.second_done;
        sorted = record {
          first_done = refl;
          second_done = refl;
          equal = h.equal;
          differ = h.differ;
          zero = h.zero;
          code = h.code;
          added = h.added;
        };
      }

-- ---- two calls that write one buffer each

-- such a call writes what the operation does, whose answer is packed in the number
wrote : {number : ℕ} {new old : List ℕ} {r : ℕ} {out : List ℕ} → Returns number [] new old r out → Wrote number new old (answer number []) out
wrote h = record { says = refl; buffer = h.buffer }

module _ (bytes given : List ℕ) (room room' : ℕ) {buffer₀ buffer back₀ back : List ℕ} {r r' : ℕ} where
  pub code_then_read : Returns (code_refusal bytes given room) [] (coded bytes given) buffer₀ r buffer
      → Returns (read_refusal bytes buffer room') [] (message_of bytes buffer) back₀ r' back
      → code_refusal bytes given room ≡ 0 → room' ≡ message_length (book_of bytes) → GivenBackOverC r r' (written_out (book_of bytes) given) back
  code_then_read h k z e = back-over-c h.returns k.returns (trips.code_then_read bytes given room room' (wrote h) (wrote k) z e)

  pub read_then_code : Returns (read_refusal bytes given room) [] (message_of bytes given) buffer₀ r buffer
      → Returns (code_refusal bytes buffer room') [] (coded bytes buffer) back₀ r' back
      → read_refusal bytes given room ≡ 0 → room' ≡ (book_of bytes).n → GivenBackOverC r r' given back
  read_then_code h k z e = back-over-c h.returns k.returns (trips.read_then_code bytes given room room' (wrote h) (wrote k) z e)

module _ (bytes : List ℕ) {w w' out₀ out out₀' out' : List ℕ} {room room' r r' : ℕ}
    (h : Returns (remainder_refusal bytes w room) [] (remainder_of bytes w) out₀ r out)
    (h' : Returns (remainder_refusal bytes w' room') [] (remainder_of bytes w') out₀' r' out') where
  pub sorted : GivenTwo bytes w w' room room' → SortedOverC bytes w w' r r' out out'
  sorted given = sorted-over-c h.returns h'.returns (remainders.sorted bytes (wrote h) (wrote h') given)

module _ {bytes f f' old w old' w' : List ℕ} {room room' r r' : ℕ}
    (h : Returns (code_refusal bytes f room) [] (coded bytes f) old r w)
    (h' : Returns (code_refusal bytes f' room') [] (coded bytes f') old' r' w') where
  pub same_word : GivenWrittenOut bytes f f' room room' → SameWordOverC r r' w w'
  same_word given =
      let both = short.same_word (wrote h) (wrote h') given in
      record {
        same_number = h.returns ∙ ap result_of both.same_answer ∙ sym h'.returns;
        same_word = λ z. both.same_word (ap (λ (n : ℕ). answer n []) (number_result (code_refusal bytes f room) ∙ sym h.returns ∙ z));
      }

-- ---- demand 3

-- a call of decode, with any matrix beside it
decodes : {number : ℕ} {x : Result} {old : List ℕ} {r : ℕ} {out : List ℕ} → Returns number (values x) x.answer old r out
    → Decodes number x old [] (answer number (values x)) out (left number x.entries [])
decodes h = record { says = refl; answer_buffer = h.buffer; matrix_buffer = refl }

module _ (bytes : List ℕ) {w w' word₀ word₀' word word' : List ℕ} {r r' : ℕ} (room room' : ℕ)
    (h : Returns (decode_refusal bytes w room (matrix_size bytes)) (values (decode_bytes bytes w)) (decode_bytes bytes w).answer word₀ r word)
    (h' : Returns (decode_refusal bytes w' room' (matrix_size bytes)) (values (decode_bytes bytes w')) (decode_bytes bytes w').answer word₀' r' word') where
  pub related : (t c : ℕ) (v : List ℕ) → Given bytes t c v w w' room (matrix_size bytes) room' (matrix_size bytes) → RelatedOverC bytes t c v r r' word word'
  related t c v g =
      moved-over-c h.returns h'.returns
      (twice.related bytes room (matrix_size bytes) room' (matrix_size bytes)
      (decodes {x = decode_bytes bytes w} h) (decodes {x = decode_bytes bytes w'} h') t c v g)

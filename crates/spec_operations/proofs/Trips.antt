-- Two calls, of which the second undoes the first, from what each answers and writes.
-- Assumes nothing.
use mathlib.Core.Path.{◌≡◌, ap, ◌∙◌}
use mathlib.Core.List.{List}
use Prim.Native.Nat.{ℕ}
use Rattle.spec_field.specs.Answer.{Answer}
use Rattle.spec_book.specs.Book.{message_length}
use Rattle.spec_book.specs.Layout.{book_of}
use Rattle.spec_coding.specs.Coder.{written_out}
use Rattle.spec_operations.specs.Wrote.{Wrote}
use Rattle.spec_operations.specs.Coding.{code_refusal, coded, read_refusal, message_of}
use Rattle.spec_operations.specs.Trips.{GivenBack}
use Rattle.spec_operations.proofs.Wrote.{wrote_new, wrote_done}
use Rattle.spec_operations.proofs.Coding.{coded-accepted, coded-read, message-accepted, message-coded}

module _ (bytes given : List ℕ) (room room' : ℕ) {buffer₀ buffer back₀ back : List ℕ} {a a' : Answer} where
  pub code_then_read : Wrote (code_refusal bytes given room) (coded bytes given) buffer₀ a buffer
      → Wrote (read_refusal bytes buffer room') (message_of bytes buffer) back₀ a' back
      → code_refusal bytes given room ≡ 0 → room' ≡ message_length (book_of bytes) → GivenBack a a' (written_out (book_of bytes) given) back
  code_then_read h k z e =
      let made : buffer ≡ coded bytes given = wrote_new z h in
      let z' : read_refusal bytes buffer room' ≡ 0 = rw made (coded-accepted bytes given room z room' e) in
      record {
        first_done = wrote_done z h;
        second_done = wrote_done z' k;
        given_back = wrote_new z' k ∙ ap (message_of bytes) made ∙ coded-read bytes given room z;
      }

  pub read_then_code : Wrote (read_refusal bytes given room) (message_of bytes given) buffer₀ a buffer
      → Wrote (code_refusal bytes buffer room') (coded bytes buffer) back₀ a' back
      → read_refusal bytes given room ≡ 0 → room' ≡ (book_of bytes).n → GivenBack a a' given back
  read_then_code h k z e =
      let made : buffer ≡ message_of bytes given = wrote_new z h in
      let z' : code_refusal bytes buffer room' ≡ 0 = rw made (message-accepted bytes given room z room' e) in
      record {
        first_done = wrote_done z h;
        second_done = wrote_done z' k;
        given_back = wrote_new z' k ∙ ap (coded bytes) made ∙ message-coded bytes given room z;
      }

-- The answers of matrix and decode, from what their calls ensure.
-- Assumes nothing.
use mathlib.Core.Path.{◌≡◌, sym, ap, ap₂, ◌∙◌, subst}
use mathlib.Core.Bool.{Bool, not, ◌&&◌}
use mathlib.Core.List.{List, [], ◌∷◌}
use Prim.Native.Nat.{ℕ, ◌≤◌, ◌+◌, ◌*◌, ◌^◌, ◌<◌}
use native.Mathlib.Omega.{arith}
use lib.Dec.{T, eqb, eqb→eq}
use lib.ListN.{length, replicate, length-replicate}
use lib.Seq.{ext_get_or}
use Rattle.spec_range.specs.Fold.{indicator}
use Rattle.spec_range.specs.Table.{table, padded}
use Rattle.spec_range.proofs.Tests.{and_left, and_right}
use Rattle.spec_range.proofs.Fold.{fold_cong}
use Rattle.spec_range.proofs.Loop.{zero_at}
use Rattle.spec_range.proofs.Table.{table-length, table_at}
use Rattle.spec_field.specs.Answer.{Answer, answer, done, refused}
use Rattle.spec_field.proofs.Refusals.{answers_refused}
use Rattle.spec_word.specs.Word.{at, distance}
use Rattle.spec_word.proofs.Place.{at_table}
use Rattle.sizes.specs.Blocks.{span}
use Rattle.word_array.specs.Stored.{place, Stored}
use Rattle.spec_book.specs.Layout.{field_of, book_of}
use Rattle.spec_book.specs.Conditions.{refusal, input_refusal}
use Rattle.spec_operations.specs.Wrote.{Wrote}
use Rattle.spec_operations.proofs.Wrote.{left_refused, left_done}
use Rattle.matrix_terms.specs.Terms.{unlisted, terms_at}
use Rattle.spec_book.proofs.Inputs.{AcceptedInput, accepted_input}
use Rattle.book.specs.Params.{Describes}
use Rattle.book.specs.declared.Params.{Params}
use Rattle.book.proofs.Described.{at_listed}
use Rattle.spec_decoding.specs.Matrix.{matrix}
use Rattle.spec_decoding.specs.Decode as D
use Rattle.spec_decoding.specs.Decode.{Result, letter}
use Rattle.spec_decoding.proofs.Matrix.{matrix-length}
use Rattle.spec_decoding.proofs.Outcome.{decode-sound}
use Rattle.spec_operations.specs.Decoding.{matrix_input_refusal, matrix_refusal, matrix_bytes, decode_input_refusal, decode_refusal, decode_bytes, values, Decodes}
use Rattle.decode_rounds.specs.Kind.{kind_of}
use Rattle.decode.specs.Decoded.{said}
use Rattle.decode_rounds.specs.Rounds.{listed, RoomsFit, TermsRoom, Ended}
use Rattle.refusal.specs.declared.Refusal.{Refusal}
use Rattle.refusal.specs.Number.{number_of}
use Rattle.refusal.proofs.Numbers.{number-not_zero, first_is, next_is}
use Rattle.std.specs.Prelude.{Ok}
use Rattle.decode_rounds.specs.declared.End.{End}
use Rattle.decode_rounds.proofs.Stepping.{padded_symbols}
use Rattle.decode_rounds.proofs.Decoding.{loaded_listed}

-- ---- the refusals, by the parameters that were read off the book

module _ (bytes : List ℕ) (c : Params) (d : Describes bytes c) where
  pub matrix_number : (r : List ℕ) (entries : ℕ) {number q size : ℕ} → number ≡ input_refusal q (eqb (length r) c.n) (eqb entries size) r
      → q ≡ 2 ^ c.p → size ≡ 2 ^ c.p * c.n → number ≡ matrix_input_refusal bytes r entries
  unfolding matrix_input_refusal
  matrix_number r entries h hq hs = h ∙ rw (hq, hs, d.p_is, d.n_is)

  pub decode_number : (r : List ℕ) (room entries : ℕ) {number q : ℕ} {exact : Bool} → number ≡ input_refusal q (eqb (length r) c.n) exact r
      → q ≡ 2 ^ c.p → exact ≡ (eqb room c.n && eqb entries (2 ^ c.p * c.n)) → number ≡ decode_input_refusal bytes r room entries
  unfolding decode_input_refusal
  decode_number r room entries h hq he = h ∙ rw (hq, he, d.p_is, d.n_is)

  -- ---- a received word that is not refused, loaded into an array

  module _ (received : List ℕ) {q : ℕ} (exact : Bool) (h : 0 ≡ input_refusal q (eqb (length received) c.n) exact received) (hq : q ≡ 2 ^ c.p) where
    pub input : AcceptedInput (2 ^ c.p) (eqb (length received) c.n) exact received
    input =
        accepted_input (2 ^ c.p) (eqb (length received) c.n) exact received
        (sym (h ∙ ap (λ (x : ℕ). input_refusal x (eqb (length received) c.n) exact received) hq))

    -- what the test of both sizes tells
    pub output_sizes : {room entries : ℕ} → exact ≡ (eqb room c.n && eqb entries (2 ^ c.p * c.n)) → (room ≡ c.n) × (entries ≡ 2 ^ c.p * c.n)
    output_sizes {room} {entries} e =
        let t = subst T e input.sizes in
        (eqb→eq room c.n (and_left (eqb room c.n) (eqb entries (2 ^ c.p * c.n)) t), eqb→eq entries (2 ^ c.p * c.n) (and_right (eqb room c.n) (eqb entries (2 ^ c.p * c.n)) t))

    pub input-size : length received ≡ c.n
    input-size = eqb→eq (length received) c.n input.size

    pub input-stored : Stored c.p c.n received
    input-stored = record { symbol = λ j l. input.symbol j (subst (λ (k : ℕ). j < k) (sym input-size) l) }

    pub input-listed : listed bytes received ≡ received
    input-listed =
        ext_get_or 0 (listed bytes received) received (table-length (book_of bytes).n (place received) ∙ sym d.n_is ∙ sym input-size) (λ j l.
        table_at (book_of bytes).n (place received) (subst (λ (k : ℕ). j < k) (table-length (book_of bytes).n (place received)) l))

    -- an array that was loaded with the word has symbols only
    pub loaded-stored : {r : List ℕ} → r ≡ padded 255 c.n (λ j. place received (0 + j)) → Stored c.p 255 r
    loaded-stored loaded = padded_symbols loaded (λ j l. subst (λ (k : ℕ). place received k < 2 ^ c.p) (omega arith) (input-stored.symbol j l))

-- ---- the room for terms

-- in a room of zeros nothing is listed
pub listed_room : {bytes : List ℕ} {terms table : ℕ} → RoomsFit bytes terms table → {c : Params} → Describes bytes c → TermsRoom bytes c (replicate terms 0)
listed_room {bytes} {terms} h {c} d =
    record {
      long = omega (arith, subst (λ (n : ℕ). terms_at + span n * 32 ≤ terms) (sym d.n_is) (h.terms_fit d.accepted), length-replicate {A = ℕ} terms 0);
      kept = unlisted (zero_at terms 0);
    }

-- ---- the ends of a call

pub decodes_refused : (number : ℕ) (why : Refusal) (x : Result) {word entries : List ℕ} → number_of why ≡ number
    → Decodes number x word entries (refused (number_of why)) word entries
decodes_refused number why x {word} {entries} e =
    let h = number-not_zero why in
    record {
      says = answers_refused _ number (values x) e h;
      answer_buffer = left_refused _ number x.answer word e h;
      matrix_buffer = left_refused _ number x.entries entries e h;
    }

-- the number may be written another way
pub wrote_same : {k k' : ℕ} {new old out : List ℕ} {a : Answer} → k ≡ k' → Wrote k new old a out → Wrote k' new old a out
wrote_same {new = new} {old = old} {out = out} {a = a} e h = subst (λ (k : ℕ). Wrote k new old a out) e h

pub decodes_same : {k k' : ℕ} {x : Result} {word₀ entries₀ word entries : List ℕ} {a : Answer} → k ≡ k'
    → Decodes k x word₀ entries₀ a word entries → Decodes k' x word₀ entries₀ a word entries
decodes_same {x = x} {word₀ = word₀} {entries₀ = entries₀} {word = word} {entries = entries} {a = a} e h =
    subst (λ (k : ℕ). Decodes k x word₀ entries₀ a word entries) e h

-- the number of the whole call, where the book was accepted
module _ (bytes received : List ℕ) (e : refusal bytes ≡ 0) where
  pub matrix-accepted : (size : ℕ) → matrix_input_refusal bytes received size ≡ matrix_refusal bytes received size
  unfolding matrix_refusal
  matrix-accepted size = next_is (refusal bytes) (matrix_input_refusal bytes received size) (sym e)

  pub decode-accepted : (room size : ℕ) → decode_input_refusal bytes received room size ≡ decode_refusal bytes received room size
  unfolding decode_refusal
  decode-accepted room size = next_is (refusal bytes) (decode_input_refusal bytes received room size) (sym e)

-- and where it was not
module _ (bytes received : List ℕ) (why : Refusal) (e : number_of why ≡ refusal bytes) where
  pub matrix_refused : (size : ℕ) → number_of why ≡ matrix_refusal bytes received size
  unfolding matrix_refusal
  matrix_refused size = first_is why (refusal bytes) (matrix_input_refusal bytes received size) e

  pub decode_refused : (room size : ℕ) → number_of why ≡ decode_refusal bytes received room size
  unfolding decode_refusal
  decode_refused room size = first_is why (refusal bytes) (decode_input_refusal bytes received room size) e

-- ---- the answer of a word that is decoded

module _ (bytes : List ℕ) (c : Params) (d : Describes bytes c) (received : List ℕ) (listed-is : listed bytes received ≡ received)
    (end : End) (m : List ℕ) (ended : Ended bytes (decode_bytes bytes (listed bytes received)) end m) where
  abbrev x : Result
  x = decode_bytes bytes received

  result-is : decode_bytes bytes (listed bytes received) ≡ x
  result-is = ap (decode_bytes bytes) listed-is

  ended-x : Ended bytes x end m
  ended-x = subst (λ (y : Result). Ended bytes y end m) result-is ended

  -- the places where the arrays differ are those where the words do
  changed-is : distance c.n (place end.word) (place received) ≡ x.changed
  unfolding distance
  changed-is =
      ap (λ (n : ℕ). distance n (place end.word) (place received)) d.n_is
      ∙ (fold_cong ◌+◌ 0 (book_of bytes).n (λ j l.
      ap₂ (λ (a b : ℕ). indicator (not (eqb a b)))
      (sym (ap (λ (w : List ℕ). at (book_of bytes).n w j) (sym ended-x.answer_is) ∙ at_table (book_of bytes).n (place end.word) l))
      (sym (ap (λ (w : List ℕ). at (book_of bytes).n w j) (sym listed-is) ∙ at_table (book_of bytes).n (place received) l)))
      ∙ sym (decode-sound (field_of bytes) (book_of bytes) (matrix (field_of bytes) (book_of bytes)) (matrix-length (field_of bytes) (book_of bytes) _) received).changed-is)

  pub decodes_done : (number : ℕ) {word₀ entries₀ word : List ℕ} {changed : ℕ} → number ≡ 0 → word ≡ table c.n (place end.word)
      → changed ≡ distance c.n (place end.word) (place received)
      → Decodes number x word₀ entries₀ (said (Ok (record { kind = end.kind; rounds = end.rounds; changed = changed }))) word m
  decodes_done number {word₀} {entries₀} {word} {changed} z hw hc =
      record {
        says =
            ap (λ (k : ℕ). done (k ∷ end.rounds ∷ letter (kind_of end.kind) ∷ [])) (hc ∙ changed-is)
            ∙ ap₂ (λ (n : ℕ) (k : D.Kind). done (x.changed ∷ n ∷ letter k ∷ [])) ended-x.rounds_is ended-x.kind-is
            ∙ ap (λ (n : ℕ). answer n (values x)) (sym z);
        answer_buffer = left_done number x.answer word₀ z (hw ∙ ap (λ (n : ℕ). table n (place end.word)) d.n_is ∙ ended-x.answer_is);
        matrix_buffer = left_done number x.entries entries₀ z ended-x.matrix-is;
      }

-- ---- the matrix of a word that is not refused

pub matrix_made : (bytes : List ℕ) (c : Params) → Describes bytes c → (received : List ℕ) {r m : List ℕ} → listed bytes received ≡ received
    → r ≡ padded 255 c.n (λ j. place received (0 + j)) → m ≡ matrix (field_of bytes) (book_of bytes) (at c.n r) → m ≡ matrix_bytes bytes received
matrix_made bytes c d received {r} e loaded h =
    h ∙ ap (λ (n : ℕ). matrix (field_of bytes) (book_of bytes) (at n r)) d.n_is
    ∙ ap (matrix (field_of bytes) (book_of bytes))
    (sym (at_listed bytes d.accepted r) ∙ ap (at (book_of bytes).n) (loaded_listed bytes c received d loaded ∙ e))

-- A word of a burst that is not refused, unmixed and decoded: its result is that of decoding it singly.
-- Assumes nothing.
use mathlib.Core.Path.{◌≡◌, refl, sym, ap, ◌∙◌, subst}
use mathlib.Core.List.{List, [], ◌∷◌}
use Prim.Native.Nat.{ℕ, ◌+◌, ◌*◌, ◌^◌, ◌≤◌, ◌<◌}
use native.Mathlib.Omega.{arith}
use lib.ListN.{length, get_or, take}
use lib.Seq.{ext_get_or, get_or-take, length-take-le}
use Rattle.spec_range.specs.Table.{table, padded}
use Rattle.spec_range.proofs.Table.{table-length, table_at}
use Rattle.spec_range.proofs.Loop.{padded-length, padded-at}
use Rattle.spec_field.specs.Answer.{Answer, answer, done, refused, left}
use Rattle.spec_word.specs.Word.{IsWord}
use Rattle.spec_word.specs.Mixed.{unmixed}
use Rattle.spec_book.specs.Layout.{field_of, book_of}
use Rattle.spec_decoding.specs.Decode.{Result}
use Rattle.spec_operations.specs.Decoding.{decode_input_refusal, decode_bytes, values, Decodes}
use Rattle.spec_operations.specs.Burst.{burst_word}
use Rattle.spec_operations.proofs.Decoding.{decode_taken}
use Rattle.spec_operations.proofs.Burst.{unmixed_word}
use Rattle.word_array.specs.Stored.{place}
use Rattle.book.specs.Params.{Describes}
use Rattle.book.specs.declared.Params.{Params}
use Rattle.book.proofs.Described.{params_sizes}
use Rattle.std.specs.Prelude as P
use Rattle.refusal.specs.declared.Refusal.{Refusal}
use Rattle.decode.specs.declared.Decoded.{Decoded}
use Rattle.decode.specs.Decoded.{said}
use Rattle.burst.specs.Words.{Received, Told, DecodedWord}
use Rattle.burst.specs.declared.Record.{Record}

-- the first n places of an array that holds n
pub take-padded : (size n : ℕ) (f : ℕ → ℕ) → n ≤ size → take n (padded size n f) ≡ table n f
take-padded size n f h =
    let long = length-take-le n (padded size n f) (subst (λ (k : ℕ). n ≤ k) (sym (padded-length size n f)) h) in
    ext_get_or 0 (take n (padded size n f)) (table n f) (long ∙ sym (table-length n f)) (λ j l.
    let below = subst (λ (k : ℕ). j < k) long l in
    get_or-take n (padded size n f) j 0 below ∙ padded-at size n f h below ∙ sym (table_at n f below))

-- an array that holds a word has room for n places
pub room_for : (n : ℕ) (f : ℕ → ℕ) {w : List ℕ} → n ≤ 255 → w ≡ padded 255 n f → n ≤ length w
room_for n f h e = subst (λ (k : ℕ). n ≤ k) (sym (ap length e ∙ padded-length 255 n f)) h

-- the values of an answer, in the order of a record
in_record : Answer → List ℕ
in_record (done vs) = get_or vs 2 0 ∷ get_or vs 1 0 ∷ get_or vs 0 0 ∷ []
in_record (refused number) = []

-- what has values is not refused
pub not_refused : (r : P.Result Decoded Refusal) {vs : List ℕ} → said r ≡ done vs → P.IsOk r
not_refused (P.Ok told) e = refl
not_refused (P.Err why) e = let no : ◌≡◌ {A = ℕ} 0 1 = cc in absurd (omega (arith, no))

module _ (bytes : List ℕ) (c : Params) (d : Describes bytes c) (words : ℕ) (received : List ℕ) (g : Received c words received) {m : ℕ} (hm : m < words) where
  abbrev word : List ℕ
  word = unmixed (book_of bytes).n words received m

  pub word_is : {w : List ℕ} → w ≡ padded 255 c.n (λ j. place received (j * words + m)) → take c.n w ≡ word
  unfolding unmixed
  word_is e =
      ap (take c.n) e ∙ take-padded 255 c.n _ (params_sizes bytes c d).n_high
      ∙ ap (λ (n : ℕ). table n (λ j. place received (j * words + m))) d.n_is

  is_word : IsWord (field_of bytes) (book_of bytes).n word
  is_word =
      unmixed_word (field_of bytes) (book_of bytes).n words received (g.size ∙ ap (λ (n : ℕ). n * words) d.n_is) (λ k l.
      subst (λ (p : ℕ). place received k < 2 ^ p) d.p_is (g.symbol k l)) hm

  abbrev pub x : Result
  x = burst_word bytes words received m

  -- decode says what the definition does, and so does not refuse the word
  module _ (v answer₀ entries₀ : List ℕ) (r : P.Result Decoded Refusal) {answer' entries : List ℕ} (e : v ≡ word)
      (h : Decodes (decode_input_refusal bytes v (length answer₀) (length entries₀)) (decode_bytes bytes v) answer₀ entries₀ (said r) answer' entries)
      (ha : length answer₀ ≡ c.n) (he : length entries₀ ≡ 2 ^ c.p * c.n) where
    one : Decodes (decode_input_refusal bytes word (length answer₀) (length entries₀)) x answer₀ entries₀ (said r) answer' entries
    one =
        subst (λ (u : List ℕ). Decodes (decode_input_refusal bytes u (length answer₀) (length entries₀)) (decode_bytes bytes u) answer₀ entries₀ (said r) answer' entries)
        e h

    taken : decode_input_refusal bytes word (length answer₀) (length entries₀) ≡ 0
    taken =
        decode_taken bytes word (length answer₀) (length entries₀) is_word (ha ∙ d.n_is)
        (he ∙ ap (λ (p : ℕ). 2 ^ p * c.n) d.p_is ∙ ap (λ (n : ℕ). (field_of bytes).q * n) d.n_is)

    pub says_values : said r ≡ done (values x)
    says_values = one.says ∙ ap (λ (n : ℕ). answer n (values x)) taken

    pub decoded_word : {told : Decoded} {made : Record} → r ≡ P.Ok told → Told told made → DecodedWord x made answer' entries
    unfolding in_record
    decoded_word is hr =
        record {
          record_is = hr ∙ ap in_record (sym (ap said is) ∙ says_values);
          answer_is = one.answer_buffer ∙ ap (λ (n : ℕ). left n x.answer answer₀) taken;
          entries_is = one.matrix_buffer ∙ ap (λ (n : ℕ). left n x.entries entries₀) taken;
        }

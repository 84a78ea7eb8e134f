-- Demand 3 of every word of two bursts, from what the two ensure and the symmetry of the definitions.
-- Assumes nothing.
use mathlib.Core.Path.{◌≡◌, refl, sym, ap, ◌∙◌, subst}
use mathlib.Core.List.{List, []}
use Prim.Native.Nat.{ℕ, pred, ◌*◌, ◌<◌}
use native.Mathlib.Omega.{arith}
use lib.Dec.{T}
use lib.ListN.{length, get_or}
use Rattle.spec_field.specs.Field.{FieldOps}
use Rattle.spec_field.proofs.Refusals.{found_next}
use Rattle.spec_word.specs.Word.{IsWord}
use Rattle.spec_word.specs.Mixed.{mixed, unmixed, part}
use Rattle.spec_word.proofs.Mixed.{mixed-length, mixed_symbol, unmixed-mixed, joined_same, part-joined}
use Rattle.spec_book.specs.Book.{Book}
use Rattle.spec_book.specs.Layout.{field_of, book_of}
use Rattle.spec_book.specs.Conditions.{refusal, words_ok}
use Rattle.spec_book.proofs.Inputs.{words_low}
use Rattle.spec_decoding.specs.Decode.{Result}
use Rattle.spec_decoding.specs.Symmetry.{move, MovedBy, Moved}
use Rattle.spec_decoding.proofs.Demand3.{moved_word, answer_word, demand_3}
use Rattle.spec_operations.specs.Decoding.{decode_bytes}
use Rattle.spec_operations.specs.Burst.{burst_input_refusal, burst_refusal, burst_word, record_of, Bursts}
use Rattle.spec_operations.specs.BurstTwice.{BurstSizes, GivenBursts, RelatedBursts}
use Rattle.spec_operations.proofs.Decoding.{symbol-list, is_word}
use Rattle.spec_operations.proofs.Burst.{burst_taken}
use Rattle.refusal.specs.Number.{said}
use Rattle.burst.specs.Said.{Outcome, made_bytes, Answered}

-- ---- a burst of words

module _ (bytes : List ℕ) (e : refusal bytes ≡ 0) (words : ℕ) (count : T (words_ok words)) (w : ℕ → List ℕ)
    (word : (m : ℕ) → m < words → IsWord (field_of bytes) (book_of bytes).n (w m)) {r : List ℕ} (mixes : r ≡ mixed (book_of bytes).n words w) where
  not_refused : (answers list entries : ℕ) → BurstSizes bytes words answers list entries → burst_refusal bytes words r answers list entries ≡ 0
  unfolding burst_refusal
  not_refused answers list entries sizes =
      sym (found_next 0 (refusal bytes) (burst_input_refusal bytes words r answers list entries) (sym e) refl)
      ∙ burst_taken bytes words r answers list entries (record {
        count = count;
        size = size;
        answers_size = sizes.answers_size;
        list_size = sizes.list_size;
        entries_size = sizes.entries_size;
        symbol = λ k l.
            subst (λ (x : List ℕ). get_or x k 0 < (field_of bytes).q) (sym mixes)
            (mixed_symbol (book_of bytes).n words (field_of bytes).q w (λ m h j b. (word m h).symbol j b) k (subst (λ (n : ℕ). k < n) size l));
      })
    where
      size : length r ≡ (book_of bytes).n * words
      size = ap length mixes ∙ mixed-length (book_of bytes).n words w

  -- the result of word m is that of decoding w m
  word-result : {m : ℕ} → m < words → burst_word bytes words r m ≡ decode_bytes bytes (w m)
  word-result {m} h =
      ap (λ (x : List ℕ). decode_bytes bytes (unmixed (book_of bytes).n words x m)) mixes
      ∙ ap (decode_bytes bytes) (unmixed-mixed (book_of bytes).n words w h (word m h).size)

  -- and its answer has n symbols
  answer-long : (m : ℕ) → m < words → length (burst_word bytes words r m).answer ≡ (book_of bytes).n
  answer-long m h =
      ap (λ (x : Result). length x.answer) (word-result h) ∙ (answer_word bytes e (w m) (symbol-list bytes e (word m h))).exact

-- what a burst that is not refused answers, lists and leaves
shows : {number words : ℕ} {x : ℕ → Result} {answers₀ entries₀ answers entries : List ℕ} {b : Outcome} → number ≡ 0
    → Answered number words x answers₀ entries₀ b answers entries → Bursts 0 words x answers₀ [] entries₀ (said b) answers (made_bytes b) entries
shows {words = words} {x = x} {answers₀ = answers₀} {entries₀ = entries₀} {answers = answers} {entries = entries} {b = b} z h =
    subst (λ (n : ℕ). Bursts n words x answers₀ [] entries₀ (said b) answers (made_bytes b) entries) z h.bursts

-- ---- two bursts

same_record : {F : FieldOps} {B : Book} {place symbol : ℕ → ℕ} {word : List ℕ → List ℕ} {x y : Result}
    → MovedBy F B place symbol word x y → record_of y ≡ record_of x
same_record h = rw (h.same_kind, h.same_rounds, h.same_changed) refl

pub related_bursts : (bytes : List ℕ) (words : ℕ) (r r' answers₀ answers₀' entries₀ entries₀' : List ℕ) (list list' : ℕ)
    {answers entries answers' entries' : List ℕ} {b b' : Outcome}
    → Answered (burst_refusal bytes words r (length answers₀) list (length entries₀)) words (burst_word bytes words r) answers₀ entries₀ b answers entries
    → Answered (burst_refusal bytes words r' (length answers₀') list' (length entries₀')) words (burst_word bytes words r') answers₀' entries₀' b' answers' entries'
    → (w : ℕ → List ℕ) (t c : ℕ → ℕ) (v : ℕ → List ℕ) → GivenBursts bytes words w t c v r r'
    → BurstSizes bytes words (length answers₀) list (length entries₀) → BurstSizes bytes words (length answers₀') list' (length entries₀')
    → RelatedBursts bytes words t c v (said b) (said b') answers answers' (made_bytes b) (made_bytes b') entries entries'
related_bursts bytes words r r' answers₀ answers₀' entries₀ entries₀' list list' {answers} {entries} {answers'} {entries'} {b} {b'} first second w t c v g sizes sizes' =
    record {
      first_done = one.says;
      second_done = two.says;
      same-records = two.records_list ∙ joined_same words (λ m h. same_record (moved m h)) ∙ sym one.records_list;
      moved-answers = λ m h.
          ap (λ (x : List ℕ). part n x m) two.answers_buffer
          ∙ part-joined n words _ (answer-long bytes g.accepted words g.count w' word' g.second) h
          ∙ (moved m h).moved_answer
          ∙ ap (move (field_of bytes) n (t m) (c m) (v m))
          (sym (ap (λ (x : List ℕ). part n x m) one.answers_buffer
          ∙ part-joined n words _ (answer-long bytes g.accepted words g.count w g.word g.first) h));
      moved_entries = λ i j hi hj. rw (one.matrix_buffer, two.matrix_buffer) ((moved (pred words) last).moved_entries i j hi hj);
    }
  where
    n : ℕ
    n = (book_of bytes).n

    w' : ℕ → List ℕ
    w' m = move (field_of bytes) (book_of bytes).n (t m) (c m) (v m) (w m)

    word' : (m : ℕ) → m < words → IsWord (field_of bytes) (book_of bytes).n (w' m)
    word' m h =
        is_word bytes g.accepted
        (moved_word bytes g.accepted (t m) (c m) (g.nonzero m h) (g.symbol m h) (v m) (symbol-list bytes g.accepted (g.added m h)) (g.code m h) (w m))

    moved : (m : ℕ) → m < words → Moved (field_of bytes) (book_of bytes) (t m) (c m) (v m) (burst_word bytes words r m) (burst_word bytes words r' m)
    moved m h =
        rw (
          word-result bytes g.accepted words g.count w g.word g.first h,
          word-result bytes g.accepted words g.count w' word' g.second h,
        )
        (demand_3 bytes g.accepted (t m) (c m) (g.nonzero m h) (g.symbol m h) (v m) (symbol-list bytes g.accepted (g.added m h)) (g.code m h) (w m)
        (symbol-list bytes g.accepted (g.word m h)))

    one : Bursts 0 words (burst_word bytes words r) answers₀ [] entries₀ (said b) answers (made_bytes b) entries
    one = shows (not_refused bytes g.accepted words g.count w g.word g.first (length answers₀) list (length entries₀) sizes) first

    two : Bursts 0 words (burst_word bytes words r') answers₀' [] entries₀' (said b') answers' (made_bytes b') entries'
    two = shows (not_refused bytes g.accepted words g.count w' word' g.second (length answers₀') list' (length entries₀') sizes') second

    last : pred words < words
    last = omega (arith, words_low words g.count)

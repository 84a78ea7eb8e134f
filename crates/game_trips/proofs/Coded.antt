-- Messages that were coded come back whole: the words of their burst are code words, which are Clean and read back.
-- Assumes nothing.
use mathlib.Core.Path.{◌≡◌, ap, ap₂, ◌∙◌, subst}
use mathlib.Core.List.{List}
use Prim.Native.Nat.{ℕ, ◌<◌}
use native.Mathlib.Nat.{mul-zero}
use lib.Dec.{T}
use lib.ListN.{length}
use Rattle.spec_range.specs.Fold.{indicator}
use Rattle.spec_range.proofs.Count.{total_equal}
use Rattle.spec_field.specs.Answer.{Answer, answer, or_else, left}
use Rattle.spec_field.proofs.Refusals.{neither}
use Rattle.spec_word.specs.Word.{IsWord, at}
use Rattle.spec_word.specs.Mixed.{part}
use Rattle.spec_word.proofs.Mixed.{unmixed-mixed, mixed-length, mixed_symbol, joined_same, joined_parts, part_length}
use Rattle.spec_book.specs.Book.{message_length, is_code_word}
use Rattle.spec_book.specs.Layout.{field_of, book_of}
use Rattle.spec_book.specs.Conditions.{refusal}
use Rattle.spec_coding.proofs.Coder.{written_out_full}
use Rattle.spec_decoding.specs.Decode.{Result, clean, result, zero_matrix}
use Rattle.spec_operations.specs.Wrote.{Wrote}
use Rattle.spec_operations.specs.Coding.{code_refusal, coded, message_of}
use Rattle.spec_operations.specs.Decoding.{decode_bytes}
use Rattle.spec_operations.specs.Burst.{burst_word}
use Rattle.spec_operations.specs.Game.{is_held, game_size, game_values, game_refusal, game_held, messages_of, Games}
use Rattle.spec_operations.specs.GameTrips.{send_refusal, sent, BackWhole}
use Rattle.spec_operations.proofs.Wrote.{wrote_new, wrote_done}
use Rattle.spec_operations.proofs.Coding.{coded-word, coded-code, coded-read}
use Rattle.spec_operations.proofs.Decoding.{decodes_clean}
use Rattle.spec_operations.proofs.Game.{game_taken}
use Rattle.game_trips.proofs.Accepted.{TakenMessages, taken_messages, part-accepted}

-- ---- messages that are not refused

module _ (bytes : List ℕ) (words : ℕ) (f : List ℕ) (room : ℕ) (z : send_refusal bytes words f room ≡ 0) where
  abbrev n : ℕ
  n = (book_of bytes).n

  abbrev k : ℕ
  k = message_length (book_of bytes)

  abbrev message : ℕ → List ℕ
  message m = part (message_length (book_of bytes)) f m

  abbrev word : ℕ → List ℕ
  word m = coded bytes (part (message_length (book_of bytes)) f m)

  accepted : (refusal bytes ≡ 0) × TakenMessages bytes words f room
  unfolding send_refusal
  accepted = let both = neither (refusal bytes) _ z in (both.0, taken_messages bytes words f room both.1)

  message-taken : {m : ℕ} → m < words → code_refusal bytes (message m) n ≡ 0
  message-taken l = part-accepted bytes words f room accepted.0 accepted.1 l

  -- each word is a code word
  code-word : {m : ℕ} → m < words → IsWord (field_of bytes) n (word m) × T (is_code_word (field_of bytes) (book_of bytes) (at n (word m)))
  code-word {m} l = (coded-word bytes (message m) n (message-taken l), coded-code bytes (message m) n (message-taken l))

  -- so it is Clean, and its own answer
  word-clean : {m : ℕ} → m < words
      → burst_word bytes words (sent bytes words f) m ≡ result (field_of bytes) (book_of bytes) clean 0 (word m) (word m) (zero_matrix (field_of bytes) (book_of bytes))
  word-clean {m} l =
      ap (decode_bytes bytes) (unmixed-mixed n words word l (code-word l).0.size) ∙ decodes_clean bytes (word m) (code-word l).1

  none_held : game_held bytes words (sent bytes words f) ≡ 0
  none_held = total_equal words 0 _ (λ m l. ap (λ (x : Result). indicator (is_held x.kind)) (word-clean l)) ∙ mul-zero words

  messages-back : messages_of bytes words (burst_word bytes words (sent bytes words f)) ≡ f
  messages-back =
      joined_same words (λ m l.
      ap (λ (x : Result). message_of bytes x.answer) (word-clean l)
      ∙ coded-read bytes (message m) n (message-taken l)
      ∙ written_out_full (book_of bytes) (message m) (part_length k f m))
      ∙ joined_parts k words f accepted.1.size

  -- and the game of them is taken
  game_accepted : {size : ℕ} → size ≡ game_size bytes words → game_refusal bytes words (sent bytes words f) size ≡ 0
  unfolding game_refusal
  game_accepted {size} e =
      ap₂ or_else accepted.0
      (game_taken bytes words (sent bytes words f) size (record {
        count = accepted.1.count;
        size = mixed-length n words word;
        messages_size = e;
        symbol = λ i l.
            mixed_symbol n words (field_of bytes).q word (λ m h. (code-word h).0.symbol) i (subst (λ (a : ℕ). i < a) (mixed-length n words word) l);
      }))

  pub back_whole : {out₀ out back₀ back : List ℕ} {a a' : Answer} → Wrote (send_refusal bytes words f room) (sent bytes words f) out₀ a out
      → Games bytes (game_refusal bytes words out (length back₀)) words out back₀ a' back → length back₀ ≡ game_size bytes words → BackWhole a a' f back
  back_whole {back₀ = back₀} {back = back} {a' = a'} h g e =
      record {
        sent_done = wrote_done z h;
        whole = game.says ∙ ap₂ (λ (i held : ℕ). answer i (game_values held)) (game_accepted e) none_held;
        given_back =
            game.buffer
            ∙ ap₂ (λ (i held : ℕ). left i (left held (messages_of bytes words (burst_word bytes words (sent bytes words f))) back₀) back₀) (game_accepted e) none_held
            ∙ messages-back;
      }
    where
      game : Games bytes (game_refusal bytes words (sent bytes words f) (length back₀)) words (sent bytes words f) back₀ a' back
      game = subst (λ (r : List ℕ). Games bytes (game_refusal bytes words r (length back₀)) words r back₀ a' back) (wrote_new z h) g

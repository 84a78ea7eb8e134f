-- Which games are taken, which words are held, and that the answers to all others can be read.
-- Assumes nothing.
use mathlib.Core.Path.{◌≡◌, refl, ap, ap₂, ◌∙◌, subst}
use mathlib.Core.Bool.{Bool, true, false, true≢false}
use mathlib.Core.List.{List}
use Prim.Native.Nat.{ℕ, ◌+◌, ◌≤◌, ◌<◌}
use native.Mathlib.Omega.{arith}
use lib.Dec.{T, eqb, eqb→eq}
use lib.ListN.{length, get_or}
use Rattle.spec_range.specs.Fold.{indicator}
use Rattle.spec_range.proofs.Fold.{fold_cong}
use Rattle.spec_range.proofs.Tests.{eq→eqb, cond_true}
use Rattle.spec_range.proofs.Count.{part_le}
use Rattle.spec_field.specs.Answer.{or_else}
use Rattle.spec_word.specs.Word.{IsWord, at}
use Rattle.spec_word.specs.Mixed.{unmixed}
use Rattle.spec_word.proofs.Mixed.{joined_at}
use Rattle.spec_book.specs.Book.{message_length, is_code_word}
use Rattle.spec_book.specs.Layout.{field_of, book_of}
use Rattle.spec_book.specs.Conditions.{refusal, words_ok, code_word_refusal}
use Rattle.spec_book.proofs.Inputs.{accepted_input, input_accepted, word_input}
use Rattle.spec_book.proofs.Sound.{passed}
use Rattle.spec_decoding.specs.Decode.{Kind, Result, letter, clean, mended, stalled, spent}
use Rattle.spec_decoding.proofs.Outcome.{Says}
use Rattle.spec_operations.specs.Coding.{read_input_refusal, read_word_refusal}
use Rattle.spec_operations.specs.Decoding.{decode_bytes}
use Rattle.spec_operations.specs.Burst.{burst_size, burst_word, record_of, records_of}
use Rattle.spec_operations.specs.Game.{is_held, held_of, game_size, game_input_refusal, game_held}
use Rattle.spec_operations.specs.GameTrips.{held_letter, held_records}
use Rattle.spec_operations.proofs.Decoding.{sound, answers-word}
use Rattle.spec_operations.proofs.Burst.{unmixed_word}

-- ---- a game that is taken

pub record TakenGame (bytes : List ℕ) (words : ℕ) (r : List ℕ) (messages : ℕ) : Type 0 where
  pub count : T (words_ok words)
  pub size : length r ≡ burst_size bytes words
  pub messages_size : messages ≡ game_size bytes words
  pub symbol : (k : ℕ) → k < length r → get_or r k 0 < (field_of bytes).q

module _ (bytes : List ℕ) (words : ℕ) (r : List ℕ) (messages : ℕ) where
  pub game_taken : TakenGame bytes words r messages → game_input_refusal bytes words r messages ≡ 0
  unfolding game_input_refusal
  game_taken h =
      cond_true (words_ok words) _ _ h.count
      ∙ input_accepted (record { size = eq→eqb h.size; sizes = eq→eqb h.messages_size; symbol = h.symbol })

  pub taken_game : game_input_refusal bytes words r messages ≡ 0 → TakenGame bytes words r messages
  unfolding game_input_refusal
  taken_game e =
      let counted = passed (words_ok words) 13 _ e in
      let input = accepted_input (field_of bytes).q (eqb (length r) (burst_size bytes words)) (eqb messages (game_size bytes words)) r counted.1 in
      record {
        count = counted.0;
        size = eqb→eq (length r) (burst_size bytes words) input.size;
        messages_size = eqb→eq messages (game_size bytes words) input.sizes;
        symbol = input.symbol;
      }

-- ---- words that are held

letter_held : (kind : Kind) → held_letter (letter kind) ≡ is_held kind
letter_held clean = refl
letter_held mended = refl
letter_held stalled = refl
letter_held spent = refl

-- the records tell which words are held
pub held_records_lem : (words : ℕ) (word : ℕ → Result) → held_records words (records_of words word) ≡ held_of words word
held_records_lem words word =
    fold_cong ◌+◌ 0 words (λ m l.
    ap indicator
    (ap (λ (k : ℕ). held_letter (get_or (records_of words word) k 0)) (omega arith)
    ∙ ap held_letter (joined_at 3 words (λ m. record_of (word m)) (λ _ _. refl) {j = 0} l (omega arith))
    ∙ letter_held (word m).kind))

not_counted : (b : Bool) → indicator b ≤ 0 → b ≡ false
not_counted true h = absurd (omega arith)
not_counted false h = refl

-- none is held, so this one is not
pub none_held : (words : ℕ) (word : ℕ → Result) → held_of words word ≡ 0 → {m : ℕ} → m < words → is_held (word m).kind ≡ false
none_held words word z {m} l =
    not_counted (is_held (word m).kind) (subst (λ (k : ℕ). indicator (is_held (word m).kind) ≤ k) z (part_le words (λ m. indicator (is_held (word m).kind)) l))

-- ---- answers that can be read

module _ (bytes : List ℕ) (ok : refusal bytes ≡ 0) where
  code-word-said : (kind : Kind) (r w : List ℕ) → is_held kind ≡ false → Says (field_of bytes) (book_of bytes) r kind w
      → T (is_code_word (field_of bytes) (book_of bytes) (at (book_of bytes).n w))
  code-word-said clean r w f s = s.0
  code-word-said mended r w f s = s
  code-word-said stalled r w f s = absurd (true≢false f)
  code-word-said spent r w f s = absurd (true≢false f)

  pub answer_read : {r : List ℕ} → IsWord (field_of bytes) (book_of bytes).n r → is_held (decode_bytes bytes r).kind ≡ false
      → read_word_refusal bytes (decode_bytes bytes r).answer (message_length (book_of bytes)) ≡ 0
  unfolding read_word_refusal read_input_refusal code_word_refusal
  answer_read {r} h f =
      ap₂ or_else
      (input_accepted (word_input (answers-word bytes ok h) (eq→eqb {a = message_length (book_of bytes)} refl)))
      (cond_true (is_code_word (field_of bytes) (book_of bytes) (at (book_of bytes).n (decode_bytes bytes r).answer)) 0 12
      (code-word-said (decode_bytes bytes r).kind r (decode_bytes bytes r).answer f (sound bytes r).says))

  -- the words of a game that is taken, and their answers
  module _ {words : ℕ} {r : List ℕ} {messages : ℕ} (h : TakenGame bytes words r messages) where
    pub game-word : {m : ℕ} → m < words → IsWord (field_of bytes) (book_of bytes).n (unmixed (book_of bytes).n words r m)
    game-word l = unmixed_word (field_of bytes) (book_of bytes).n words r h.size h.symbol l

    pub game-answer : {m : ℕ} → m < words → IsWord (field_of bytes) (book_of bytes).n (burst_word bytes words r m).answer
    game-answer l = answers-word bytes ok (game-word l)

    pub game-read : game_held bytes words r ≡ 0 → {m : ℕ} → m < words
        → read_word_refusal bytes (burst_word bytes words r m).answer (message_length (book_of bytes)) ≡ 0
    game-read z l = answer_read (game-word l) (none_held words (burst_word bytes words r) z l)

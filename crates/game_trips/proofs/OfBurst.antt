-- A game beside a burst of the same words: the records tell which words are held, and the answer words are what is read.
-- Assumes nothing.
use mathlib.Core.Path.{◌≡◌, sym, ap, ap₂, ◌∙◌}
use mathlib.Core.List.{List, []}
use Prim.Native.Nat.{ℕ, ◌<◌}
use lib.ListN.{length}
use Rattle.spec_field.specs.Answer.{Answer, answer, or_else, left}
use Rattle.spec_field.proofs.Refusals.{neither}
use Rattle.spec_word.specs.Mixed.{part}
use Rattle.spec_word.proofs.Mixed.{joined_same, part-joined}
use Rattle.spec_book.specs.Layout.{book_of}
use Rattle.spec_book.specs.Conditions.{refusal}
use Rattle.spec_operations.specs.Coding.{message_of}
use Rattle.spec_operations.specs.Burst.{burst_refusal, burst_word, answers_of, records_of}
use Rattle.spec_operations.specs.Game.{game_size, game_values, game_refusal, game_held, game_messages, Games}
use Rattle.spec_operations.specs.GameTrips.{held_records, GameOfBurst}
use Rattle.spec_operations.proofs.Burst.{taken_burst}
use Rattle.spec_operations.proofs.Game.{TakenGame, game_taken, held_records_lem, game-answer}
use Rattle.burst.specs.Said.{Outcome, made_bytes, Answered}

-- a game is taken where the burst is
game_beside : (bytes : List ℕ) (words : ℕ) (r : List ℕ) (answers list entries : ℕ) {messages : ℕ} → burst_refusal bytes words r answers list entries ≡ 0
    → messages ≡ game_size bytes words → (refusal bytes ≡ 0) × TakenGame bytes words r messages
unfolding burst_refusal
game_beside bytes words r answers list entries z e =
    let both = neither (refusal bytes) _ z in
    let h = taken_burst bytes words r answers list entries both.1 in
    (both.0, record { count = h.count; size = h.size; messages_size = e; symbol = h.symbol })

pub game_of_burst : (bytes : List ℕ) (words : ℕ) (r answers₀ entries₀ messages₀ : List ℕ) (list : ℕ) {answers entries messages : List ℕ} {b : Outcome} {a : Answer}
    → Answered (burst_refusal bytes words r (length answers₀) list (length entries₀)) words (burst_word bytes words r) answers₀ entries₀ b answers entries
    → Games bytes (game_refusal bytes words r (length messages₀)) words r messages₀ a messages
    → burst_refusal bytes words r (length answers₀) list (length entries₀) ≡ 0 → length messages₀ ≡ game_size bytes words
    → GameOfBurst bytes words answers (made_bytes b) messages₀ a messages
unfolding game_refusal
game_of_burst bytes words r answers₀ entries₀ messages₀ list {answers} {b = b} burst game z e =
    record {
      says = game.says ∙ ap₂ (λ (i held : ℕ). answer i (game_values held)) z' (sym held);
      buffer =
          game.buffer
          ∙ ap (λ (i : ℕ). left i (game_messages bytes words r messages₀) messages₀) z'
          ∙ ap₂ (λ (held : ℕ) (new : List ℕ). left held new messages₀) (sym held)
          (joined_same words (λ m l. ap (message_of bytes) (sym (part-is m l))));
    }
  where
    taken : (refusal bytes ≡ 0) × TakenGame bytes words r (length messages₀)
    taken = game_beside bytes words r (length answers₀) list (length entries₀) z e

    z' : game_refusal bytes words r (length messages₀) ≡ 0
    z' = ap₂ or_else taken.0 (game_taken bytes words r (length messages₀) taken.1)

    held : held_records words (made_bytes b) ≡ game_held bytes words r
    held =
        ap (held_records words) (burst.bursts.records_list ∙ ap (λ (i : ℕ). left i (records_of words (burst_word bytes words r)) []) z)
        ∙ held_records_lem words (burst_word bytes words r)

    part-is : (m : ℕ) → m < words → part (book_of bytes).n answers m ≡ (burst_word bytes words r m).answer
    part-is m l =
        ap (λ (x : List ℕ). part (book_of bytes).n x m)
        (burst.bursts.answers_buffer ∙ ap (λ (i : ℕ). left i (answers_of words (burst_word bytes words r)) answers₀) z)
        ∙ part-joined (book_of bytes).n words (λ m. (burst_word bytes words r m).answer) (λ i h. (game-answer bytes taken.0 taken.1 h).size) l

-- SCOPE 5.26, 5.27: A game beside other calls: of messages that were coded, and of a burst that is decoded too.
-- Assumes nothing.
use Rattle.std.specs.Prelude.{◌≡◌, Bool, ◌||◌, List, [], ℕ, ◌*◌, eqb, length, get_or}
use Rattle.spec_range.specs.Fold.{count}
use Rattle.spec_field.specs.Field.{FieldOps}
use Rattle.spec_field.specs.Answer.{Answer, done, or_else, left}
use Rattle.spec_word.specs.Mixed.{mixed, joined, part}
use Rattle.spec_book.specs.Book.{Book, message_length}
use Rattle.spec_book.specs.Layout.{field_of, book_of}
use Rattle.spec_book.specs.Conditions.{refusal, unless, words_ok, input_refusal}
use Rattle.spec_decoding.specs.Decode.{letter, stalled, spent}
use Rattle.spec_operations.specs.Coding.{coded, message_of}
use Rattle.spec_operations.specs.Burst.{burst_size}
use Rattle.spec_operations.specs.Game.{game_size, game_values}

-- SCOPE 5.27: whether a letter is that of a kind that is held
abbrev pub held_letter : ℕ → Bool
held_letter x = eqb x (letter stalled) || eqb x (letter spent)

-- SCOPE 5.27: how many of M records, of three bytes each, have such a letter
abbrev pub held_records : ℕ → List ℕ → ℕ
held_records words records = count words (λ m. held_letter (get_or records (m * 3) 0))

-- SCOPE 5.26: neither call, with the answers a and a', is refused, the game is Whole, and its messages are those that were coded
pub record BackWhole (a a' : Answer) (given back : List ℕ) : Type 0 where
  pub sent_done : a ≡ done []
  pub whole : a' ≡ done (game_values 0)
  pub given_back : back ≡ given

module _ (bytes : List ℕ) where
  -- SCOPE 1.1: the field of the book
  abbrev F : FieldOps
  F = field_of bytes

  -- SCOPE 3.1: the book
  abbrev B : Book
  B = book_of bytes

  -- SCOPE 5.26: coding M messages of k symbols into a burst, once the book is accepted: 14 for M; 9 to 11 for k × M symbols and n × M bytes
  unfoldable pub send_input_refusal : ℕ → List ℕ → ℕ → ℕ
  send_input_refusal words f room =
      unless (words_ok words) 14 (input_refusal F.q (eqb (length f) (game_size bytes words)) (eqb room (burst_size bytes words)) f)

  -- SCOPE 5.26: the same for any book: 1 to 8, then these
  unfoldable pub send_refusal : ℕ → List ℕ → ℕ → ℕ
  send_refusal words f room = or_else (refusal bytes) (send_input_refusal words f room)

  -- SCOPE 5.26: the burst: message m, the k symbols from place m × k on, is coded, and the words are mixed
  abbrev pub sent : ℕ → List ℕ → List ℕ
  sent words f = mixed B.n words (λ m. coded bytes (part (message_length B) f m))

  -- SCOPE 5.27: a game of M words whose burst left these answers and records: Held exactly where one of the records has such a letter, with their count; else
  -- the messages are what read reads of each answer word
  pub record GameOfBurst (words : ℕ) (answers records old : List ℕ) (a : Answer) (messages : List ℕ) : Type 0 where
    pub says : a ≡ done (game_values (held_records words records))
    pub buffer : messages ≡ left (held_records words records) (joined words (λ m. message_of bytes (part B.n answers m))) old

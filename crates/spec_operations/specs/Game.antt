-- SCOPE 4.41 to 4.44: Game, for all inputs: its refusals in the table's order, and what it answers and writes.
-- Assumes nothing.
use Rattle.std.specs.Prelude.{◌≡◌, Bool, true, false, List, [], ◌∷◌, ℕ, zero, suc, ◌*◌, eqb, length}
use Rattle.spec_range.specs.Fold.{count}
use Rattle.spec_field.specs.Field.{FieldOps}
use Rattle.spec_field.specs.Answer.{Answer, answer, or_else, left}
use Rattle.spec_word.specs.Mixed.{joined}
use Rattle.spec_book.specs.Book.{Book, message_length}
use Rattle.spec_book.specs.Layout.{field_of, book_of}
use Rattle.spec_book.specs.Conditions.{refusal, unless, words_ok, input_refusal}
use Rattle.spec_decoding.specs.Decode.{Kind, Result, clean, mended, stalled, spent}
use Rattle.spec_operations.specs.Coding.{message_of}
use Rattle.spec_operations.specs.Burst.{burst_size, burst_word}

-- SCOPE 4.41: a word is held that is Stalled or Spent: no code word was reached, and no message can be read
abbrev pub is_held : Kind → Bool
is_held clean = false
is_held mended = false
is_held stalled = true
is_held spent = true

-- SCOPE 4.41: how many of M words are held
abbrev pub held_of : ℕ → (ℕ → Result) → ℕ
held_of words word = count words (λ m. is_held (word m).kind)

-- SCOPE 4.42: the letter of a game of which so many words are held, as a byte: W, Whole, for none, else H, Held
abbrev pub game_letter : ℕ → ℕ
game_letter zero = 87
game_letter (suc held) = 72

-- SCOPE 4.42: the values of a game: how many words are held, 0, and the letter
abbrev pub game_values : ℕ → List ℕ
game_values held = held ∷ 0 ∷ game_letter held ∷ []

module _ (bytes : List ℕ) where
  -- SCOPE 1.1: the field of the book
  abbrev F : FieldOps
  F = field_of bytes

  -- SCOPE 3.1: the book
  abbrev B : Book
  B = book_of bytes

  -- SCOPE 7.17: the exact size of a game's messages: k × M
  abbrev pub game_size : ℕ → ℕ
  game_size words = message_length B * words

  -- SCOPE 7.18: game, once the book is accepted: 14 for M words; 9 to 11 for n × M symbols and k × M bytes of messages
  unfoldable pub game_input_refusal : ℕ → List ℕ → ℕ → ℕ
  game_input_refusal words r messages =
      unless (words_ok words) 14 (input_refusal F.q (eqb (length r) (burst_size bytes words)) (eqb messages (game_size words)) r)

  -- SCOPE 7.18: game: 1 to 8, then these
  unfoldable pub game_refusal : ℕ → List ℕ → ℕ → ℕ
  game_refusal words r messages = or_else (refusal bytes) (game_input_refusal words r messages)

  -- SCOPE 4.41: how many words of a burst r are held
  abbrev pub game_held : ℕ → List ℕ → ℕ
  game_held words r = held_of words (burst_word bytes words r)

  -- SCOPE 4.43: the messages of M results, each read from its answer word, one after another
  abbrev pub messages_of : ℕ → (ℕ → Result) → List ℕ
  messages_of words word = joined words (λ m. message_of bytes (word m).answer)

  -- SCOPE 4.44: what the message buffer, which held `old`, holds after a burst r: the messages where no word is held, else every byte that it held
  abbrev pub game_messages : ℕ → List ℕ → List ℕ → List ℕ
  game_messages words r old = left (game_held words r) (messages_of words (burst_word bytes words r)) old

  -- SCOPE 5.25: a game with first refusal number `number`: its answer a, and the message buffer in the end
  pub record Games (number words : ℕ) (r old : List ℕ) (a : Answer) (messages : List ℕ) : Type 0 where
    pub says : a ≡ answer number (game_values (game_held words r))
    pub buffer : messages ≡ left number (game_messages words r old) old

-- The answers of a game, from what its calls ensure.
-- Assumes nothing.
use mathlib.Core.Path.{◌≡◌, refl, sym, ap, ap₂, ◌∙◌, subst}
use mathlib.Core.List.{List, [], ◌∷◌}
use Prim.Native.Nat.{ℕ, zero, suc, ◌-◌, ◌*◌, ◌^◌, ◌≤◌, ◌<◌}
use native.Mathlib.Nat.{le_trans, le_of_eq, mul-le-mul_left}
use lib.Dec.{eqb}
use lib.ListN.{length}
use Rattle.spec_field.specs.Answer.{Answer, answer, done, refused, left}
use Rattle.spec_word.specs.Mixed.{part}
use Rattle.spec_word.proofs.Mixed.{part-joined, joined_same}
use Rattle.spec_book.specs.Book.{message_length}
use Rattle.spec_book.specs.Layout.{book_of}
use Rattle.spec_book.specs.Conditions.{refusal, unless, words_ok, input_refusal}
use Rattle.spec_book.proofs.Inputs.{words_high}
use Rattle.spec_operations.specs.Coding.{read_word_refusal, message_of}
use Rattle.spec_operations.specs.Decoding.{matrix_size}
use Rattle.spec_operations.specs.Burst.{burst_size, burst_input_refusal, burst_word, answers_of, records_of}
use Rattle.spec_operations.specs.Game.{game_letter, game_values, game_input_refusal, game_refusal, game_held, messages_of, game_messages, Games}
use Rattle.spec_operations.specs.GameTrips.{held_records}
use Rattle.spec_operations.proofs.Wrote.{left_refused, left_done}
use Rattle.spec_operations.proofs.Burst.{burst_taken}
use Rattle.spec_operations.proofs.Game.{TakenGame, taken_game, held_records_lem, game-answer, game-read}
use Rattle.book.specs.Params.{Describes}
use Rattle.book.specs.declared.Params.{Params}
use Rattle.std.specs.Prelude.{Ok, IsOk}
use Rattle.refusal.specs.declared.Refusal.{Refusal}
use Rattle.refusal.specs.Number.{number_of}
use Rattle.refusal.proofs.Numbers.{number-not_zero, refused_is, first_is, next_is}
use Rattle.burst.specs.Said.{Outcome, count_of, made_bytes, counted, Answered}
use Rattle.burst.specs.declared.Burst.{Burst}
use Rattle.burst.proofs.Answering.{matrix_sized}
use Rattle.game.specs.Rooms.{MatrixRoom, AnswersRoom}
use Rattle.game.proofs.Reading.{is_done}
use Rattle.game.specs.Words.{Readable, messages_in}

-- ---- the three ends of a call

-- some word is held
some_letter : (held : ℕ) → (held ≡ 0 → ⊥) → game_letter 1 ≡ game_letter held
some_letter zero h = absurd (h refl)
some_letter (suc held) h = refl

module _ (bytes : List ℕ) (number words : ℕ) (r : List ℕ) {old : List ℕ} where
  pub games_refused : (why : Refusal) → number_of why ≡ number → Games bytes number words r old (refused (number_of why)) old
  games_refused why e =
      record { says = refused_is why number _ e; buffer = left_refused _ number (game_messages bytes words r old) old e (number-not_zero why) }

  pub games_held : {held : ℕ} → number ≡ 0 → held ≡ game_held bytes words r → (held ≡ 0 → ⊥) → Games bytes number words r old (done (held ∷ 0 ∷ game_letter 1 ∷ [])) old
  games_held {held} z e h =
      record {
        says = ap (λ (x : ℕ). done (held ∷ 0 ∷ x ∷ [])) (some_letter held h) ∙ ap₂ (λ (n k : ℕ). answer n (game_values k)) (sym z) e;
        buffer = left_done number (game_messages bytes words r old) old z (left_refused held (game_held bytes words r) (messages_of bytes words (burst_word bytes words r)) old e h);
      }

  pub games_whole : {messages : List ℕ} → number ≡ 0 → game_held bytes words r ≡ 0 → messages ≡ messages_of bytes words (burst_word bytes words r)
      → Games bytes number words r old (done (game_values 0)) messages
  games_whole z e h =
      record {
        says = ap₂ (λ (n k : ℕ). answer n (game_values k)) (sym z) (sym e);
        buffer = left_done number (game_messages bytes words r old) old z (left_done (game_held bytes words r) (messages_of bytes words (burst_word bytes words r)) old e h);
      }

-- ---- the number

-- by the parameters that were read off the book
pub game_number : (bytes : List ℕ) (c : Params) → Describes bytes c → (words : ℕ) (r : List ℕ) (room : ℕ) {number q : ℕ}
    → number ≡ unless (words_ok words) 14 (input_refusal q (eqb (length r) (c.n * words)) (eqb room ((c.n - c.degree) * words)) r) → q ≡ 2 ^ c.p
    → number ≡ game_input_refusal bytes words r room
unfolding game_input_refusal
game_number bytes c d words r room h hq = h ∙ rw (hq, d.p_is, d.n_is, d.degree_is)

-- and where it is 0, the game is taken
pub game_taken : (bytes : List ℕ) (c : Params) → Describes bytes c → (words : ℕ) (r : List ℕ) (room : ℕ) {q : ℕ}
    → 0 ≡ unless (words_ok words) 14 (input_refusal q (eqb (length r) (c.n * words)) (eqb room ((c.n - c.degree) * words)) r) → q ≡ 2 ^ c.p
    → TakenGame bytes words r room
game_taken bytes c d words r room h hq = taken_game bytes words r room (sym (game_number bytes c d words r room h hq))

-- of the whole call; it may be written another way
pub games_same : {bytes : List ℕ} {k k' words : ℕ} {r old messages : List ℕ} {a : Answer} → k ≡ k' → Games bytes k words r old a messages
    → Games bytes k' words r old a messages
games_same {bytes} {words = words} {r = r} {old = old} {messages = messages} {a = a} e h = subst (λ (k : ℕ). Games bytes k words r old a messages) e h

module _ (bytes : List ℕ) (words : ℕ) (r : List ℕ) (room : ℕ) where
  pub game_accepted : refusal bytes ≡ 0 → game_input_refusal bytes words r room ≡ game_refusal bytes words r room
  unfolding game_refusal
  game_accepted e = next_is (refusal bytes) (game_input_refusal bytes words r room) (sym e)

  pub game_refused : (why : Refusal) → number_of why ≡ refusal bytes → number_of why ≡ game_refusal bytes words r room
  unfolding game_refusal
  game_refused why e = first_is why (refusal bytes) (game_input_refusal bytes words r room) e

-- ---- a game that is taken

-- its matrices have room
pub matrix_fits : (bytes : List ℕ) (c : Params) → Describes bytes c → {entries : List ℕ} → MatrixRoom bytes entries → {size : ℕ} → size ≡ 2 ^ c.p * c.n → size ≤ length entries
matrix_fits bytes c d room e = le_trans (le_of_eq (e ∙ matrix_sized bytes c d)) (room.matrix_long d.accepted)

module _ (bytes : List ℕ) (ok : refusal bytes ≡ 0) (words : ℕ) (r : List ℕ) {room : ℕ} (h : TakenGame bytes words r room) where
  -- sixteen words have room
  pub room_enough : {size : ℕ} → (book_of bytes).n * 16 ≤ size → burst_size bytes words ≤ size
  room_enough l = le_trans (mul-le-mul_left (book_of bytes).n (words_high words h.count)) l

  -- so its answer words have it
  pub answers_fit : (c : Params) → Describes bytes c → {answers : List ℕ} → AnswersRoom bytes answers → c.n * words ≤ length answers
  answers_fit c d a = le_trans (le_of_eq (ap (λ (n : ℕ). n * words) d.n_is)) (room_enough (a.answers_long ok))

  -- its burst is not refused, and this is what it answers and leaves
  pub record DecodedGame (made : Burst) (answers : List ℕ) : Type 0 where
    pub count_is : made.count ≡ words
    pub held-is : held_records made.count (made_bytes (Ok made)) ≡ game_held bytes words r
    pub answers_are : answers ≡ answers_of words (burst_word bytes words r)

  module _ {list size : ℕ} {answers₀ entries₀ answers entries : List ℕ} {outcome : Outcome}
      (d : Answered (burst_input_refusal bytes words r (length answers₀) list size) words (burst_word bytes words r) answers₀ entries₀ outcome answers entries)
      (ha : length answers₀ ≡ burst_size bytes words) (hl : list ≡ words) (hs : size ≡ matrix_size bytes) where
    z : burst_input_refusal bytes words r (length answers₀) list size ≡ 0
    z =
        burst_taken bytes words r (length answers₀) list size
        (record { count = h.count; size = h.size; answers_size = ha; list_size = hl; entries_size = hs; symbol = h.symbol })

    pub not_refused : IsOk outcome
    not_refused = is_done outcome (d.bursts.says ∙ ap (λ (n : ℕ). answer n []) z)

    pub decoded_game : {made : Burst} → outcome ≡ Ok made → DecodedGame made answers
    decoded_game {made} is =
        record {
          count_is = all;
          held-is =
              ap₂ held_records all
              (ap made_bytes (sym is) ∙ d.bursts.records_list ∙ ap (λ (n : ℕ). left n (records_of words (burst_word bytes words r)) []) z)
              ∙ held_records_lem words (burst_word bytes words r);
          answers_are = d.bursts.answers_buffer ∙ ap (λ (n : ℕ). left n (answers_of words (burst_word bytes words r)) answers₀) z;
        }
      where
        all : made.count ≡ words
        all = ap count_of (sym is) ∙ d.count_is ∙ ap (λ (n : ℕ). counted n words) z

  -- each answer word stands in its place, so that all can be read
  module _ {answers : List ℕ} (e : answers ≡ answers_of words (burst_word bytes words r)) where
    answer_at : {m : ℕ} → m < words → part (book_of bytes).n answers m ≡ (burst_word bytes words r m).answer
    answer_at {m} l =
        ap (λ (x : List ℕ). part (book_of bytes).n x m) e
        ∙ part-joined (book_of bytes).n words (λ i. (burst_word bytes words r i).answer) (λ i b. (game-answer bytes ok h b).size) l

    pub game-readable : game_held bytes words r ≡ 0 → Readable bytes words answers
    game-readable z = record { can_read = λ m l. ap (λ (w : List ℕ). read_word_refusal bytes w (message_length (book_of bytes))) (answer_at l) ∙ game-read bytes ok h z l }

    pub game-messages : messages_in bytes words answers ≡ messages_of bytes words (burst_word bytes words r)
    game-messages = joined_same words (λ m l. ap (message_of bytes) (answer_at l))

-- Messages of a game that are not refused: their sizes, and that no call of code refuses one of them.
-- Assumes nothing.
use mathlib.Core.Path.{◌≡◌, refl, sym, ap, ap₂, ◌∙◌, subst}
use mathlib.Core.List.{List}
use Prim.Native.Nat.{ℕ, ◌+◌, ◌*◌, ◌-◌, ◌^◌, ◌≤◌, ◌<◌}
use native.Mathlib.Nat.{mul_comm}
use native.Mathlib.Omega.{arith}
use lib.Arith.{digits_lt}
use lib.Dec.{T, eqb, eqb→eq}
use lib.ListN.{length, get_or, take, drop}
use Rattle.spec_range.proofs.Tests.{eq→eqb}
use Rattle.std.specs.Prelude.{Result, IsOk}
use Rattle.spec_field.specs.Answer.{or_else}
use Rattle.refusal.specs.declared.Refusal.{Refusal}
use Rattle.refusal.specs.Number.{said}
use Rattle.spec_word.specs.Mixed.{mixed, part}
use Rattle.spec_word.proofs.Mixed.{part_length, part_at, part_taken}
use Rattle.spec_book.specs.Book.{message_length}
use Rattle.spec_book.specs.Layout.{field_of, book_of}
use Rattle.spec_book.specs.Conditions.{refusal, unless, words_ok, input_refusal}
use Rattle.spec_book.proofs.Known.{book_accepted}
use Rattle.spec_book.proofs.Inputs.{words_high, full_fits, accepted_input, input_accepted}
use Rattle.spec_book.proofs.Sound.{passed}
use Rattle.spec_operations.specs.Wrote.{Wrote}
use Rattle.spec_operations.specs.Coding.{code_input_refusal, code_refusal, coded}
use Rattle.spec_operations.specs.Burst.{burst_size}
use Rattle.spec_operations.specs.Game.{game_size}
use Rattle.spec_operations.specs.GameTrips.{send_input_refusal, sent}
use Rattle.spec_operations.proofs.Wrote.{wrote_new, wrote_done}
use Rattle.book.specs.Params.{Describes}
use Rattle.book.specs.declared.Params.{Params}
use Rattle.book.proofs.Described.{params_sizes}
use Rattle.burst.proofs.Working.{part_within}
use Rattle.game.proofs.Reading.{is_done}

-- the number, by the parameters that were read off the book
pub send_number : (bytes : List ℕ) (c : Params) → Describes bytes c → (words : ℕ) (f : List ℕ) (room : ℕ) {number q : ℕ} → q ≡ 2 ^ c.p
    → number ≡ unless (words_ok words) 14 (input_refusal q (eqb (length f) ((c.n - c.degree) * words)) (eqb room (c.n * words)) f)
    → number ≡ send_input_refusal bytes words f room
unfolding send_input_refusal
send_number bytes c d words f room hq h = h ∙ rw (hq, d.p_is, d.n_is, d.degree_is)

-- ---- messages that are not refused

pub record TakenMessages (bytes : List ℕ) (words : ℕ) (f : List ℕ) (room : ℕ) : Type 0 where
  pub count : T (words_ok words)
  pub size : length f ≡ game_size bytes words
  pub room_size : room ≡ burst_size bytes words
  pub symbol : (k : ℕ) → k < length f → get_or f k 0 < (field_of bytes).q

module _ (bytes : List ℕ) (words : ℕ) (f : List ℕ) (room : ℕ) where
  pub taken_messages : send_input_refusal bytes words f room ≡ 0 → TakenMessages bytes words f room
  unfolding send_input_refusal
  taken_messages e =
      let counted = passed (words_ok words) 13 _ e in
      let input = accepted_input (field_of bytes).q (eqb (length f) (game_size bytes words)) (eqb room (burst_size bytes words)) f counted.1 in
      record {
        count = counted.0;
        size = eqb→eq (length f) (game_size bytes words) input.size;
        room_size = eqb→eq room (burst_size bytes words) input.sizes;
        symbol = input.symbol;
      }

  -- message m is a full message of symbols
  pub part-accepted : refusal bytes ≡ 0 → TakenMessages bytes words f room → {m : ℕ} → m < words
      → code_refusal bytes (part (message_length (book_of bytes)) f m) (book_of bytes).n ≡ 0
  unfolding code_refusal code_input_refusal
  part-accepted ok h {m} l =
      ap₂ or_else ok (input_accepted (record {
        size = full_fits k (length (part k f m)) (omega (arith, (book_accepted bytes ok).generates.degree_lt)) (part_length k f m);
        sizes = eq→eqb {a = (book_of bytes).n} refl;
        symbol = λ j b. symbol_at j (subst (λ (i : ℕ). j < i) (part_length k f m) b);
      }))
    where
      k : ℕ
      k = message_length (book_of bytes)

      symbol_at : (j : ℕ) → j < k → get_or (part k f m) j 0 < (field_of bytes).q
      symbol_at j b =
          subst (λ (x : ℕ). x < (field_of bytes).q) (sym (part_at k f m b))
          (h.symbol (m * k + j) (subst (λ (i : ℕ). m * k + j < i) (mul_comm words k ∙ sym h.size) (digits_lt l b)))

-- ---- by the parameters

module _ (bytes : List ℕ) (c : Params) (d : Describes bytes c) (words : ℕ) (f : List ℕ) (room : ℕ) (z : send_input_refusal bytes words f room ≡ 0) where
  abbrev k : ℕ
  k = c.n - c.degree

  h : TakenMessages bytes words f room
  h = taken_messages bytes words f room z

  k_is : c.n - c.degree ≡ message_length (book_of bytes)
  k_is = ap₂ ◌-◌ d.n_is d.degree_is

  pub count_high : words ≤ 16
  count_high = words_high words h.count

  pub k_high : k ≤ 255
  k_high = omega (arith, (params_sizes bytes c d).n_high)

  pub messages_long : length f ≡ k * words
  messages_long = h.size ∙ ap (λ (i : ℕ). i * words) (sym k_is)

  pub room_long : room ≡ c.n * words
  room_long = h.room_size ∙ ap (λ (i : ℕ). i * words) (sym d.n_is)

  -- message m, as it is passed to code
  abbrev passed_on : ℕ → List ℕ
  passed_on m = take (m * k + k - m * k) (drop (m * k) f)

  -- a call of code on it
  module _ {m : ℕ} (l : m < words) (word₀ : List ℕ) (e : length word₀ ≡ c.n) {word : List ℕ} {A : Type 0} (r : Result A Refusal)
      (w : Wrote (code_refusal bytes (passed_on m) (length word₀)) (coded bytes (passed_on m)) word₀ (said r) word) where
    message_is : passed_on m ≡ part k f m
    message_is =
        let all : m * k + k - m * k ≡ k = omega arith in
        ap (λ (i : ℕ). take i (drop (m * k) f)) all ∙ part_taken k f m (part_within m k l messages_long)

    taken : code_refusal bytes (passed_on m) (length word₀) ≡ 0
    taken =
        ap₂ (code_refusal bytes) (message_is ∙ ap (λ (i : ℕ). part i f m) k_is) (e ∙ d.n_is)
        ∙ part-accepted bytes words f room d.accepted h l

    pub code_done : IsOk r
    code_done = is_done r (wrote_done taken w)

    pub word_coded : word ≡ coded bytes (part k f m)
    word_coded = wrote_new taken w ∙ ap (coded bytes) message_is

  pub all-sent : mixed c.n words (λ m. coded bytes (part k f m)) ≡ sent bytes words f
  all-sent = ap₂ (λ (n i : ℕ). mixed n words (λ m. coded bytes (part i f m))) d.n_is k_is

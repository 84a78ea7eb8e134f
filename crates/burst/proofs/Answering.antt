-- The answers of a burst, from what its calls ensure.
-- Assumes nothing.
use mathlib.Core.Path.{◌≡◌, refl, sym, ap, ◌∙◌, subst}
use mathlib.Core.List.{List, []}
use Prim.Native.Nat.{ℕ, zero, suc, ◌*◌, ◌^◌, ◌<◌}
use lib.ListN.{get_or}
use Rattle.spec_field.specs.Answer.{answer}
use Rattle.spec_book.specs.Layout.{field_of}
use Rattle.spec_book.specs.Conditions.{refusal}
use Rattle.spec_book.proofs.Inputs.{words_low, words_high}
use Rattle.spec_decoding.specs.Decode.{Result}
use Rattle.spec_operations.specs.Burst.{burst_input_refusal, burst_refusal, answers_of, records_of, last_entries}
use Rattle.spec_operations.specs.Decoding.{matrix_size}
use Rattle.spec_operations.proofs.Burst.{TakenBurst}
use Rattle.spec_operations.proofs.Wrote.{left_refused, left_done}
use Rattle.book.specs.Params.{Describes}
use Rattle.book.specs.declared.Params.{Params}
use Rattle.std.specs.Prelude.{Ok, Err}
use Rattle.refusal.specs.declared.Refusal.{Refusal}
use Rattle.refusal.specs.Number.{number_of}
use Rattle.refusal.proofs.Numbers.{number-not_zero, refused_is, first_is, next_is}
use Rattle.burst.specs.Said.{counted, Outcome, Answered}
use Rattle.burst.specs.Words.{Received, DecodedWords}
use Rattle.burst.specs.declared.Record.{Record}

none_counted : (n words : ℕ) → (n ≡ 0 → ⊥) → 0 ≡ counted n words
none_counted zero words h = absurd (h refl)
none_counted (suc n) words h = refl

-- ---- the two ends of a call

pub burst_ends_refused : (number : ℕ) (why : Refusal) (words : ℕ) (word : ℕ → Result) {answers entries : List ℕ} → number_of why ≡ number
    → Answered number words word answers entries (Err why) answers entries
burst_ends_refused number why words word {answers} {entries} e =
    let h = number-not_zero why in
    record {
      bursts = record {
        says = refused_is why number [] e;
        answers_buffer = left_refused _ number (answers_of words word) answers e h;
        records_list = left_refused _ number (records_of words word) [] e h;
        matrix_buffer = left_refused _ number (last_entries words word) entries e h;
      };
      count_is = none_counted _ words h ∙ ap (λ (k : ℕ). counted k words) e;
      rest_is = tt;
    }

pub burst_ends_done : (number words : ℕ) (word : ℕ → Result) {answers₀ entries₀ answers entries : List ℕ} {records : List Record} → number ≡ 0
    → DecodedWords words word records answers entries
    → Answered number words word answers₀ entries₀ (Ok (record { count = words; records = records })) answers entries
burst_ends_done number words word {answers₀} {entries₀} z d =
    record {
      bursts = record {
        says = ap (λ (k : ℕ). answer k []) (sym z);
        answers_buffer = left_done number (answers_of words word) answers₀ z d.answers_are;
        records_list = left_done number (records_of words word) [] z d.records_are;
        matrix_buffer = left_done number (last_entries words word) entries₀ z d.entries_are;
      };
      count_is = ap (λ (k : ℕ). counted k words) (sym z);
      rest_is = d.rest_is;
    }

-- ---- a burst that is not refused

pub received : (bytes : List ℕ) (c : Params) → Describes bytes c → (words : ℕ) (r : List ℕ) {room list size : ℕ} → TakenBurst bytes words r room list size
    → Received c words r
received bytes c d words r h =
    record {
      low = words_low words h.count;
      high = words_high words h.count;
      size = h.size ∙ ap (λ (n : ℕ). n * words) (sym d.n_is);
      symbol = λ k l. subst (λ (p : ℕ). get_or r k 0 < 2 ^ p) (sym d.p_is) (h.symbol k l);
    }

-- the size of a matrix, by the parameters
pub matrix_sized : (bytes : List ℕ) (c : Params) → Describes bytes c → 2 ^ c.p * c.n ≡ matrix_size bytes
matrix_sized bytes c d = ap (λ (p : ℕ). 2 ^ p * c.n) d.p_is ∙ ap (λ (n : ℕ). (field_of bytes).q * n) d.n_is

-- ---- the number of the whole call

-- it may be written another way
pub answered_same : {k k' words : ℕ} {word : ℕ → Result} {answers₀ entries₀ answers entries : List ℕ} {r : Outcome} → k ≡ k'
    → Answered k words word answers₀ entries₀ r answers entries → Answered k' words word answers₀ entries₀ r answers entries
answered_same {words = words} {word = word} {answers₀ = answers₀} {entries₀ = entries₀} {answers = answers} {entries = entries} {r = r} e h =
    subst (λ (k : ℕ). Answered k words word answers₀ entries₀ r answers entries) e h

module _ (bytes : List ℕ) (words : ℕ) (r : List ℕ) (room list size : ℕ) where
  pub burst_accepted : refusal bytes ≡ 0 → burst_input_refusal bytes words r room list size ≡ burst_refusal bytes words r room list size
  unfolding burst_refusal
  burst_accepted e = next_is (refusal bytes) (burst_input_refusal bytes words r room list size) (sym e)

  pub burst_refused : (why : Refusal) → number_of why ≡ refusal bytes → number_of why ≡ burst_refusal bytes words r room list size
  unfolding burst_refusal
  burst_refused why e = first_is why (refusal bytes) (burst_input_refusal bytes words r room list size) e

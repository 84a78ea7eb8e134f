-- The words that follow an accepted codebook.
-- Assumes nothing.
use Rattle.std.specs.Prelude.{◌≡◌, cond, List, ℕ, ◌+◌, ◌*◌, ◌≤◌, ◌<◌, ltb, length, take}
use Rattle.spec_program.specs.Output.{most_words}
use Rattle.spec_program.specs.Machine as M
use Rattle.spec_program.specs.Machine.{answering, ended, steps, steps_text}
use Rattle.book.specs.declared.Params.{Params}
use Rattle.decode_rounds.specs.Rounds.{TermsRoom}
use Rattle.stream_text.specs.Printed.{Printed}
use Rattle.stream_state.specs.declared.Phase.{Phase}
use Rattle.stream_state.specs.declared.Phase.TheVariants.{Answering, Ended}
use Rattle.stream_state.specs.declared.State.{State}
use Rattle.stream_serve.specs.declared.Answers.{Answers}

-- the machine's state once the codebook `bytes` is accepted; the length field stays as it came
unfoldable pub serving_state : List ℕ → List ℕ → Answers → M.State
serving_state field bytes a =
    record {
      field = field;
      book = bytes;
      count = a.count;
      begun = take a.held a.begun;
      phase = cond (ltb a.count most_words) answering ended;
    }

-- less than a word is begun, and no more words are answered than are read
pub record Going (c : Params) (a : Answers) : Type 0 where
  pub begun_size : length a.begun ≡ 255
  pub held_lt : a.held < c.n
  pub count_le : a.count ≤ most_words

-- from a the bytes `piece` make r, and print what stands in `out` between their ends
pub record Served (bytes : List ℕ) (c : Params) (a : Answers) (piece out₀ : List ℕ) (r : Answers) (terms out : List ℕ) : Type 0 where
  pub state_is : (field : List ℕ) → serving_state field bytes r ≡ steps (serving_state field bytes a) piece
  pub text_is : (field : List ℕ) → Printed out₀ a.end (steps_text (serving_state field bytes a) piece) out r.end
  pub end_le : r.end ≤ a.end + 6 * (a.held + length piece)
  pub going : Going c r
  pub terms_are : TermsRoom bytes c terms

-- the phase after `count` words
abbrev pub phase_after : Params → ℕ → Phase
phase_after c count = cond (ltb count most_words) (Answering c) Ended

-- where a state's words stand, with the text that ends at `end`
abbrev pub answers_of : State → ℕ → Answers
answers_of s end = record { count = s.count; begun = s.begun; held = s.held; end = end }

-- the state s with other words, by the parameters of its codebook
abbrev pub resumed_of : State → Params → Answers → State
resumed_of s c a = record {
  field = s.field;
  got = s.got;
  book = s.book;
  came = s.came;
  count = a.count;
  begun = a.begun;
  held = a.held;
  phase = phase_after c a.count;
}

-- What comes of an opening.
-- Assumes nothing.
use Rattle.std.specs.Prelude.{◌≡◌, List, [], ℕ, ◌≤◌, length, take, Option, Some, None, Result, Ok, Err}
use Rattle.spec_program.specs.Line.{refusal_line}
use Rattle.spec_program.specs.Machine as M
use Rattle.spec_program.specs.Machine.{verdict}
use Rattle.book.specs.declared.Params.{Params}
use Rattle.book.specs.Params.{Tabulated, Describes}
use Rattle.stream_state.specs.declared.Phase.{Phase}
use Rattle.stream_state.specs.declared.Phase.TheVariants.{Opening, Answering, Ended}
use Rattle.stream_state.specs.declared.State.{State}
use Rattle.refusal.specs.declared.Refusal.{Refusal}
use Rattle.refusal.specs.Number.{number_of}
use Rattle.stream_open.specs.declared.Taken.{Taken}
use Rattle.stream_state.specs.State.{Sound}
use Rattle.stream_state.specs.Stepping.{Steps}

-- none while some of the opening is coming, the parameters of an open book, or why it is refused
abbrev pub Judged : Type 0
Judged = Result (Option Params) Refusal

-- what the field and the book tell, and t is the table of a book that is open
abbrev pub Told : List ℕ → List ℕ → Judged → List ℕ → Type 0
Told field book (Ok None) t = verdict field book ≡ M.coming
Told field book (Ok (Some c)) t = (verdict field book ≡ M.judged 0) × Describes book c × Tabulated book c.p c.n t
Told field book (Err why) t = verdict field book ≡ M.judged (number_of why)

-- the text of what is told
abbrev pub told_text : Judged → List ℕ
told_text (Ok told) = []
told_text (Err why) = refusal_line (number_of why)

-- the phase that it leads to
abbrev pub phase_told : Judged → Phase
phase_told (Ok None) = Opening
phase_told (Ok (Some c)) = Answering c
phase_told (Err why) = Ended

-- the bytes of a piece before the index of r are taken from the state s, and all of them where the opening is still coming
pub record Opens (s : State) (piece out₀ : List ℕ) (r : Taken) (t terms out : List ℕ) : Type 0 where
  pub within : r.at ≤ length piece
  pub steps_are : Steps s (take r.at piece) out₀ 0 r.state r.end out
  pub end_le : r.end ≤ 5
  pub all : r.state.phase ≡ Opening → r.at ≡ length piece
  pub sound : Sound r.state t terms

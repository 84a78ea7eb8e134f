-- Where a run stands between two pieces.
-- Assumes nothing.
use Rattle.std.specs.Prelude.{◌≡◌, cond, List, ℕ, ◌≤◌, ◌<◌, ltb, length, take}
use Rattle.spec_program.specs.Output.{most_words, book_length}
use Rattle.spec_program.specs.Machine as M
use Rattle.book.specs.declared.Params.{Params}
use Rattle.book.specs.Params.{Tabulated, Describes}
use Rattle.decode_rounds.specs.Rounds.{TermsRoom}
use Rattle.stream_state.specs.declared.Phase.{Phase}
use Rattle.stream_state.specs.declared.Phase.TheVariants.{Opening, Answering, Ended}
use Rattle.stream_state.specs.declared.State.{State}

-- the phase that each case of the code's enum stands for
abbrev pub phase_of : Phase → M.Phase
phase_of Opening = M.opening
phase_of (Answering c) = M.answering
phase_of Ended = M.ended

-- the bytes of the length field, of the codebook and of a begun word that came
abbrev pub field_came : State → List ℕ
field_came s = take s.got s.field

abbrev pub book_came : State → List ℕ
book_came s = take s.came s.book

abbrev pub begun_came : State → List ℕ
begun_came s = take s.held s.begun

-- the machine's state that a state of the code stands for
unfoldable pub state_of : State → M.State
state_of s = record { field = field_came s; book = book_came s; count = s.count; begun = begun_came s; phase = phase_of s.phase }

-- how many bytes of a codebook are read: none where the length field is short, or says more than a codebook may have
unfoldable pub wanted_of : List ℕ → ℕ
wanted_of field = cond (ltb (length field) 2) 0 (cond (ltb 8454 (book_length field)) 0 (book_length field))

-- field or codebook are still coming, and no word is
pub record Waiting (s : State) : Type 0 where
  pub coming : M.verdict (field_came s) (book_came s) ≡ M.coming
  pub fits : s.came ≤ wanted_of (field_came s)
  pub none_counted : s.count ≡ 0
  pub none_held : s.held ≡ 0

-- the codebook is open: c are its parameters, t is its table, its terms are listed in `terms` or nothing is yet, and a word is less than begun
pub record Serving (s : State) (c : Params) (t terms : List ℕ) : Type 0 where
  pub describes : Describes (book_came s) c
  pub table_is : Tabulated (book_came s) c.p c.n t
  pub terms_are : TermsRoom (book_came s) c terms
  pub held_lt : s.held < c.n
  pub count_lt : s.count < most_words

abbrev pub InPhase : Phase → State → List ℕ → List ℕ → Type 0
InPhase Opening s t terms = Waiting s
InPhase (Answering c) s t terms = Serving s c t terms
InPhase Ended s t terms = Unit {0}

-- the sizes of the arrays, and how much of each counts
pub record Sized (s : State) : Type 0 where
  pub field_size : length s.field ≡ 2
  pub book_size : length s.book ≡ 8454
  pub begun_size : length s.begun ≡ 255
  pub got_le : s.got ≤ 2
  pub came_le : s.came ≤ 8454
  pub held_le : s.held ≤ 255

-- what a state between two pieces satisfies, with the rooms for the table and the terms
pub record Sound (s : State) (t terms : List ℕ) : Type 0 where
  pub sized : Sized s
  pub table_size : length t ≡ 8192
  pub terms_size : length terms ≡ 8384
  pub in_phase : InPhase s.phase s t terms

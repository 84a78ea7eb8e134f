-- A row of words, some of whose lines are written.
-- Assumes nothing.
use Rattle.std.specs.Prelude.{◌≡◌, List, ◌++◌, ℕ, ◌+◌, ◌*◌, ◌≤◌, length}
use Rattle.book.specs.declared.Params.{Params}
use Rattle.spec_program.specs.Output.{lines_of}
use Rattle.stream_text.specs.Printed.{Printed}
use Rattle.stream_words.specs.Ready.{Ready}

-- `rest` is what is left of `words`, some of whose lines stand in `out` from index `at` to `next`; with those of `rest` they are all
pub record Row (bytes : List ℕ) (c : Params) (t words out₀ : List ℕ) (at count : ℕ) (terms answer entries out : List ℕ) (next : ℕ) (rest : List ℕ) : Type 0 where
  pub ready : Ready bytes c t terms answer entries
  pub left : ℕ
  pub whole : length rest ≡ left * c.n
  pub text : List ℕ
  pub lines : Printed out₀ at text out next
  pub all : lines_of bytes count words ≡ text ++ lines_of bytes left rest
  pub room : next + 6 * length rest ≤ at + 6 * length words

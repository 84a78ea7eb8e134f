-- What decoding a word asks.
-- Assumes nothing.
use Rattle.std.specs.Prelude.{◌≡◌, List, ℕ, ◌*◌, ◌^◌, length}
use Rattle.book.specs.declared.Params.{Params}
use Rattle.book.specs.Params.{Tabulated, Describes}
use Rattle.decode_rounds.specs.Rounds.{TermsRoom}

-- what decodes a word: an accepted book with its parameters, the table of its generator and the room for its terms, and an answer and a matrix of the exact
-- sizes
pub record Ready (bytes : List ℕ) (c : Params) (t terms answer entries : List ℕ) : Type 0 where
  pub describes : Describes bytes c
  pub table_is : Tabulated bytes c.p c.n t
  pub terms_are : TermsRoom bytes c terms
  pub answer_size : length answer ≡ c.n
  pub matrix_size : length entries ≡ 2 ^ c.p * c.n

-- What a round and the rounds make, where a word is held in an array. The matrices are those that `make` makes of a word, whatever it is.
-- Assumes nothing.
use Rattle.std.specs.Prelude.{◌≡◌, Bool, true, false, List, ℕ, ◌+◌, ◌*◌, ◌^◌, ◌≤◌, length}
use Rattle.spec_range.specs.Table.{table}
use Rattle.spec_field.specs.Field.{FieldOps}
use Rattle.spec_word.specs.Word.{at}
use Rattle.spec_book.specs.Book.{Book, is_code_word}
use Rattle.spec_book.specs.Conditions.{refusal}
use Rattle.spec_book.specs.Layout.{symbol_digits, field_of, book_of}
use Rattle.spec_decoding.specs.Matrix.{cell}
use Rattle.spec_decoding.specs.Decode.{Result, empty_update_set, corrected, run, zero_matrix}
use Rattle.sizes.specs.Blocks.{span, stride}
use Rattle.word_array.specs.Stored.{place, Stored}
use Rattle.book.specs.declared.Params.{Params}
use Rattle.book.specs.Params.{Tabulated, Describes}
use Rattle.book.specs.Opened.{table_room, OpenBook}
use Rattle.matrix_terms.specs.Terms.{dual_of, TermsOf, Kept, terms_at, weight_in}
use Rattle.decode_rounds.specs.Kind.{kind_of}
use Rattle.decode_rounds.specs.declared.Step.{Step}
use Rattle.decode_rounds.specs.declared.Step.TheVariants.{Empty, Reached, Going}
use Rattle.decode_rounds.specs.declared.Rounded.{Rounded}
use Rattle.decode_rounds.specs.declared.End.{End}

-- what comes of a round: the update set is empty, or a code word is reached, or neither
abbrev pub step_of : Bool → Bool → Step
step_of true reached = Empty
step_of false true = Reached
step_of false false = Going

module _ (bytes : List ℕ) where
  abbrev F : FieldOps
  F = field_of bytes

  abbrev B : Book
  B = book_of bytes

  -- the n symbols that an array holds
  abbrev pub listed : List ℕ → List ℕ
  listed w = table B.n (place w)

  -- what was made of an accepted book when it was opened, and the terms of its dual words
  pub record Prepared (c : Params) (t terms : List ℕ) : Type 0 where
    pub describes : Describes bytes c
    pub table_is : Tabulated bytes c.p c.n t
    pub terms_are : TermsOf (stride c.n) c.p c.n c.duals (dual_of bytes) terms

  -- a room in which the terms of its dual words are listed, or nothing yet
  pub record TermsRoom (c : Params) (terms : List ℕ) : Type 0 where
    pub long : terms_at + span c.n * 32 ≤ length terms
    pub kept : Kept (stride c.n) c.p c.n c.duals (dual_of bytes) terms

  -- rooms of so many terms, and of so many places for the table of the generator, suffice
  pub record RoomsFit (terms table : ℕ) : Type 0 where
    pub terms_fit : refusal bytes ≡ 0 → terms_at + span B.n * 32 ≤ terms
    pub terms_most : terms ≤ 8384
    pub table_fits : table_room bytes ≤ table
    pub table_most : table ≤ 8192

  -- a room in which nothing is listed yet, and which is large enough if the book is accepted
  pub record Unlisted (terms : List ℕ) : Type 0 where
    pub long : refusal bytes ≡ 0 → terms_at + span B.n * 32 ≤ length terms
    pub none : weight_in terms ≡ 0

  module _ (make : (ℕ → ℕ) → List ℕ) where
    -- the matrix of the word in an array
    abbrev pub made : List ℕ → List ℕ
    made w = make (at B.n w)

    -- the rounds for a word r that is not a code word
    abbrev pub all_rounds : List ℕ → Result
    all_rounds r = run F B make B.most_rounds 0 r r (zero_matrix F B)

    -- a round with the word w: its word, what came of it, and the matrix m
    pub record Stepped (w : List ℕ) (r : Rounded) (m : List ℕ) : Type 0 where
      pub matrix-is : m ≡ made w
      pub stored : Stored (symbol_digits bytes) 255 r.word
      pub word_is : listed r.word ≡ corrected F B (listed w) (made w)
      pub step_is : r.step ≡ step_of (empty_update_set F B (cell F B (made w))) (is_code_word F B (at B.n r.word))

  -- the rounds ended with the result x
  pub record Ended (x : Result) (r : End) (m : List ℕ) : Type 0 where
    pub kind-is : kind_of r.kind ≡ x.kind
    pub rounds_is : r.rounds ≡ x.rounds
    pub answer_is : listed r.word ≡ x.answer
    pub matrix-is : m ≡ x.entries

-- what making a matrix is given: the terms of an opened book, whichever bytes hold it, a word of symbols and room for the matrix
pub record Countable (c : Params) (terms w m : List ℕ) : Type 0 where
  pub bytes : List ℕ
  pub describes : Describes bytes c
  pub terms_are : TermsOf (stride c.n) c.p c.n c.duals (dual_of bytes) terms
  pub word : Stored c.p 255 w
  pub size : length m ≡ 2 ^ c.p * c.n

-- what a round is given: an opened book, whichever bytes hold it, a word of symbols, a matrix, and room for a remainder
pub record Begun (c : Params) (t w m rest : List ℕ) : Type 0 where
  pub bytes : List ℕ
  pub open_book : OpenBook bytes c t
  pub word : Stored c.p 255 w
  pub size : length m ≡ 2 ^ c.p * c.n
  pub long : c.n + span c.n ≤ length rest

-- what the rounds are given: the terms of the book too
pub record Ready (c : Params) (t terms w m rest : List ℕ) : Type 0 where
  pub bytes : List ℕ
  pub prepared : Prepared bytes c t terms
  pub word : Stored c.p 255 w
  pub size : length m ≡ 2 ^ c.p * c.n
  pub long : c.n + span c.n ≤ length rest

-- what decoding a word is given: an opened book, a received word of symbols, and room for the matrix
pub record Received (bytes : List ℕ) (c : Params) (t terms received m : List ℕ) : Type 0 where
  pub describes : Describes bytes c
  pub table_is : Tabulated bytes c.p c.n t
  pub terms_room : TermsRoom bytes c terms
  pub long : c.n ≤ length received
  pub word : Stored c.p c.n received
  pub size : length m ≡ 2 ^ c.p * c.n

-- SCOPE 4.15: The update set, the rounds and decode.
-- Assumes nothing.
use Rattle.std.specs.Prelude.{Bool, true, false, not, cond, ◌&&◌, List, ℕ, zero, suc, pred, ◌*◌, eqb, leb}
use Rattle.spec_range.specs.Fold.{count, largest, all}
use Rattle.spec_range.specs.Table.{table}
use Rattle.spec_field.specs.Field.{FieldOps}
use Rattle.spec_word.specs.Word.{at, sum, distance}
use Rattle.spec_book.specs.Book.{Book, is_code_word}
use Rattle.spec_decoding.specs.Matrix.{matrix, cell}

-- SCOPE 4.26: the kinds of answer
pub data Kind : Type 0 where
  clean mended stalled spent : Kind

-- SCOPE 6.3: the letter that the program prints for a kind, as a byte: C, M, S, X
abbrev pub letter : Kind → ℕ
letter clean = 67
letter mended = 77
letter stalled = 83
letter spent = 88

-- SCOPE 4.26: what decode answers and writes
pub record Result : Type 0 where
  pub kind : Kind
  -- SCOPE 4.27: how many rounds were made, one that stalled among them
  pub rounds : ℕ
  -- SCOPE 4.30: at how many places the answer differs from the received word
  pub changed : ℕ
  -- SCOPE 4.28: the code word reached, and for Stalled and Spent the word as received
  pub answer : List ℕ
  -- SCOPE 4.29: the matrix of the last round, zeros where there was none
  pub entries : List ℕ

-- ---- the update set, at a matrix m of rows (symbols) and columns (places)

module _ (F : FieldOps) (B : Book) (m : ℕ → ℕ → ℕ) where
  open F use {q}
  open B use {n, most_places}

  -- SCOPE 4.17: the largest entry of column j in the rows of nonzero symbols
  unfoldable pub peak : ℕ → ℕ
  peak j = largest (pred q) (λ k. m (suc k) j)

  -- SCOPE 4.20: symbol 1 + k has the peak of column j
  abbrev pub has_peak : ℕ → ℕ → Bool
  has_peak j k = eqb (m (suc k) j) (peak j)

  -- SCOPE 4.18: how many places have no larger entry in row 0 than j
  unfoldable pub zero_count : ℕ → ℕ
  zero_count j = count n (λ k. leb (m 0 k) (m 0 j))

  -- SCOPE 4.19: how many places have no smaller peak than j
  unfoldable pub peak_count : ℕ → ℕ
  peak_count j = count n (λ k. leb (peak j) (peak k))

  -- SCOPE 4.20: how many nonzero symbols have the peak of column j
  unfoldable pub holders : ℕ → ℕ
  holders j = count (pred q) (has_peak j)

  -- SCOPE 4.20: neither count passes D, the peak is not 0, and one symbol alone has it
  unfoldable pub in_update_set : ℕ → Bool
  in_update_set j = leb (zero_count j) most_places && leb (peak_count j) most_places && leb 1 (peak j) && eqb (holders j) 1

  -- SCOPE 4.22: what is subtracted at j: the sum of the symbols that have the peak, of which there is one; 0 outside the update set
  unfoldable pub correction : ℕ → ℕ
  correction j = cond (in_update_set j) (sum F (pred q) (λ k. cond (has_peak j k) (suc k) 0)) 0

  -- SCOPE 4.23: no place is in the update set
  unfoldable pub empty_update_set : Bool
  empty_update_set = all n (λ j. not (in_update_set j))

-- SCOPE 4.16: how a round goes on: stalled where the set is empty, mended where a code word is reached, else more rounds
abbrev pub choose : Bool → Bool → Result → Result → Result → Result
choose true reached on_empty on_reached more = on_empty
choose false true on_empty on_reached more = on_reached
choose false false on_empty on_reached more = more

module _ (F : FieldOps) (B : Book) where
  open F use {q, add as ◌⊕◌}
  open B use {n, most_rounds}

  infixl 60 ◌⊕◌
  -- SCOPE 4.21: the word w after a round with the matrix m (to subtract is to add)
  unfoldable pub corrected : List ℕ → List ℕ → List ℕ
  corrected w m = table n (λ j. at n w j ⊕ correction F B (cell F B m) j)

  -- SCOPE 4.30: the result of kind o after k rounds for the received word r, with the answer w and the matrix m
  abbrev pub result : Kind → ℕ → List ℕ → List ℕ → List ℕ → Result
  result o k r w m = record { kind = o; rounds = k; changed = distance n (at n w) (at n r); answer = w; entries = m }

  -- SCOPE 4.15: the matrix of a received code word: zeros
  abbrev pub zero_matrix : List ℕ
  zero_matrix = table (q * n) (λ k. 0)

  -- ---- decoding with the matrices that `make` makes of a word

  module _ (make : (ℕ → ℕ) → List ℕ) where
    -- SCOPE 4.31: at most `left` rounds after `made`: r is the word as received, w the word so far, m the last matrix; none left is spent
    unfoldable pub run : ℕ → ℕ → List ℕ → List ℕ → List ℕ → Result
    run zero made r w m = result spent made r r m
    run (suc left) made r w _ =
        let m = make (at n w) in
        let w' = corrected w m in
        let on_empty = result stalled (suc made) r r m in
        let on_reached = result mended (suc made) r w' m in
        let more = run left (suc made) r w' m in
        choose (empty_update_set F B (cell F B m)) (is_code_word F B (at n w')) on_empty on_reached more

    -- SCOPE 4.15: a received code word is clean, with no round; any other word goes through the rounds
    unfoldable pub decode_with : List ℕ → Result
    decode_with r =
        let on_code = result clean 0 r r zero_matrix in
        let more = run most_rounds 0 r r zero_matrix in
        cond (is_code_word F B (at n r)) on_code more

  -- SCOPE 4.16: the decoder: with the frequency matrix
  abbrev pub decode : List ℕ → Result
  decode r = decode_with (matrix F B) r

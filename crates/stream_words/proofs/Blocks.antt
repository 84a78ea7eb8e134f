-- The lines of a row of whole words, as they are made one word after the other, by the parameters that were read off the book.
-- Assumes nothing.
use mathlib.Core.Path.{◌≡◌, refl, ap, ap₂}
use mathlib.Core.List.{List, [], ◌++◌}
use Prim.Native.Nat.{ℕ, zero, suc, pred, ◌+◌, ◌*◌, ◌≤◌, ◌<◌}
use native.Mathlib.Nat.{suc-mul}
use native.Mathlib.Omega.{arith}
use lib.ListN.{length, length-append}
use lib.Seq.{take-append_seam, drop-append_seam}
use Rattle.spec_book.proofs.Known.{book_sizes, n_word_length}
use Rattle.spec_program.specs.Output.{word_line, lines_of}
use Rattle.book.specs.declared.Params.{Params}
use Rattle.book.specs.Params.{Describes}

module _ (bytes : List ℕ) (c : Params) (d : Describes bytes c) where
  -- an accepted book's words have 3 symbols or more
  pub word_low : 3 ≤ c.n
  word_low = omega (arith, d.n_is, n_word_length bytes d.accepted, (book_sizes bytes d.accepted).n_low)

  -- a word comes off the front of a row of `left` words
  module _ {row : List ℕ} (word rest : List ℕ) (cut : row ≡ word ++ rest) (size : length word ≡ c.n) where
    pub row_length : length row ≡ c.n + length rest
    row_length = omega (arith, ap length cut, length-append word rest)

    pub left_next : (left : ℕ) → length row ≡ left * c.n → length rest ≡ pred left * c.n
    left_next zero h = absurd (omega (arith, row_length, word_low))
    left_next (suc left) h = omega (arith, row_length, suc-mul left c.n)

    pub lines_next : (left : ℕ) → length row ≡ left * c.n → lines_of bytes left row ≡ word_line bytes word ++ lines_of bytes (pred left) rest
    unfolding lines_of
    lines_next zero h = absurd (omega (arith, row_length, word_low))
    lines_next (suc left) h =
        rw (cut, ← d.n_is, ← size)
        (ap₂ (λ (a b : List ℕ). word_line bytes a ++ lines_of bytes left b) (take-append_seam word rest) (drop-append_seam word rest))

  -- where less than a word is left, so is nothing
  pub lines_end : (left : ℕ) (rest : List ℕ) → length rest < c.n → length rest ≡ left * c.n → lines_of bytes left rest ≡ []
  unfolding lines_of
  lines_end zero rest l h = refl
  lines_end (suc left) rest l h = absurd (omega (arith, suc-mul left c.n))

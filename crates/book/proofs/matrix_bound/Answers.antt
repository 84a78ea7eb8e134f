-- `book::matrix_bound` meets its contract: what cannot be read so far is not accepted.
-- Assumes nothing.
use native.Mathlib.Omega.{arith}
use Rattle.spec_book.proofs.Accepting.{sizes}
use Rattle.book_records.proofs.Tested.{readable}
use Rattle.book.proofs.Rooms.{exponent_most, digits_most, matrix_bounded, no_matrix}
use Rattle.book.proofs.matrix_bound.Goals as goal

pub returns-then-book-lt-GENERATOR_AT : goal.returns-then-book-lt-GENERATOR_AT
returns-then-book-lt-GENERATOR_AT c = no_matrix _ (λ e. omega (arith, (readable _ e).whole.size))

pub returns-then-most_exponent-s : goal.returns-then-most_exponent-s
returns-then-most_exponent-s c = no_matrix _ (λ e. omega (arith, exponent_most _ (readable _ e).sizes))

pub returns-then-most_digits-p : goal.returns-then-most_digits-p
returns-then-most_digits-p c = no_matrix _ (λ e. omega (arith, digits_most _ (sizes _ (readable _ e).sizes)))

pub returns : goal.returns
returns c =
    rw (c.from.ensures, c.order.ensures, c.word_length.ensures.0) (matrix_bounded c.args.book.now (omega arith) (omega arith))

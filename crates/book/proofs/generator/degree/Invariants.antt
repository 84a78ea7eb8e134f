-- `book::generator::degree` meets its contract. The invariant: d is the degree of the places below i.
-- Assumes nothing.
use mathlib.Core.Path.{◌≡◌}
use Prim.Native.Nat.{◌≤◌}
use Rattle.spec_book.specs.Layout.{degree_of, book_of}
use Rattle.book.proofs.generator.degree.Given as goal

abbrev pub invariant-loop-i : goal.invariant-loop-i
invariant-loop-i l = (l.i ≤ l.n) × (l.d ≤ l.i) × (l.d ≡ degree_of l.i (book_of l.book).generator)

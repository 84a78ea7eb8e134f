-- `book::generator::degree` meets its contract. The invariant: d is the degree of the places below i.
-- Assumes nothing.
use mathlib.Core.Path.{◌≡◌, sym, ◌∙◌}
use native.Mathlib.Omega.{arith}
use Rattle.spec_range.proofs.Loop.{fold_none}
use Rattle.spec_book.specs.Layout.{degree_of, book_of}
use Rattle.spec_book.proofs.Accepting.{degree_lt}
use Rattle.book.proofs.Degree.{degree_nonzero, degree_zero}
use Rattle.book.proofs.Reading.{generator_at_lem}
use borrow.Author.Rules.{rules}
use Rattle.book.proofs.generator.degree.Goals as goal
use Rattle.book.proofs.generator.degree.Goals.{then-book-i-ne0, else-book-i-ne0}

pub loop-i-init : goal.loop-i-init
unfolding degree_of
loop-i-init c = (search rules, search rules, sym (fold_none _ _ _))

pub loop-i-preserved : goal.loop-i-preserved
loop-i-preserved c =
    let l = c.loop-i in
    let s = l.invariant in
    let here = generator_at_lem c.args.book.now {j = l.i} (omega (arith, c.requires.1)) in
    elim c.if-book-i-ne0.branch [
      | then-book-i-ne0 w ↦ (search rules, omega arith, w.d-is ∙ degree_nonzero _ _ _ s.2 s.1 (λ z. w.if-book-i-ne0.true (sym here ∙ z)))
      | else-book-i-ne0 w ↦ (search rules, omega arith, w.d-is ∙ degree_zero _ _ _ s.2 (here ∙ w.if-book-i-ne0.false))
    ]

pub returns : goal.returns
returns c =
    let e : c.loop-i.i ≡ c.args.n = omega arith in
    let d = rw e at c.loop-i.invariant.2 in
    (d, omega (arith, degree_lt c.args.n (book_of c.args.book.now).generator (omega arith)))

-- `book::generator::generator_ok` meets its contract: each return rewrites with the tests that led there.
-- Assumes nothing.
use mathlib.Core.Path.{◌∙◌}
use native.Mathlib.Omega.{arith}
use borrow.Author.Tests.{lt-leb, le-leb, ne_eqb}
use borrow.Author.Rules.{rules}
use Rattle.spec_book.specs.Conditions.{generator_ok}
use Rattle.sizes.proofs.Lengths.{blocks_one, blocks_high}
use Rattle.book.proofs.Reading.{read_sizes}
use Rattle.book.proofs.Leading.{degree_below, degree_within, leading, unity_decides}
use Rattle.book.proofs.generator.generator_ok.Goals as goal

pub returns-then-d-lt1 : goal.returns-then-d-lt1
unfolding generator_ok
returns-then-d-lt1 c = rw (← c.requires.degree_is, lt-leb 1 c.args.c.degree (omega arith))

pub overflow_add-leading : goal.overflow_add-leading
overflow_add-leading c = omega (arith, degree_within c.requires)

pub bounds-book-d : goal.bounds-book-d
bounds-book-d c = omega (arith, degree_below c.requires, c.requires.read.sized.n_high, c.requires.read.sized.whole.size)

pub returns-then-leading-ne1 : goal.returns-then-leading-ne1
unfolding generator_ok
returns-then-leading-ne1 c =
    rw (
      ← leading c.requires,
      ne_eqb _ _ c.if-leading-ne1.true,
      ← c.requires.degree_is,
      le-leb 1 c.args.c.degree (omega arith),
    )

pub divides_unity-requires : goal.divides_unity-requires
divides_unity-requires c =
    let sizes = read_sizes c.requires.read in
    let blocks = blocks_one c.if-c-lt-BLOCK.true in
    (sizes, search rules, degree_below c.requires, c.requires.table.multiples, omega (arith, blocks, sizes.n_high), omega arith, omega arith, omega arith)

pub returns-then-c-lt-BLOCK : goal.returns-then-c-lt-BLOCK
returns-then-c-lt-BLOCK c = c.divides_unity.ensures ∙ unity_decides c.requires (omega arith) c.if-leading-ne1.false

pub divides_unity-requires-else-c-lt-BLOCK : goal.divides_unity-requires-else-c-lt-BLOCK
divides_unity-requires-else-c-lt-BLOCK c =
    let sizes = read_sizes c.requires.read in
    (sizes, search rules, degree_below c.requires, c.requires.table.multiples, omega (arith, blocks_high c.args.c.n, sizes.n_high), omega arith, omega (arith, sizes.n_high), omega arith)

pub returns-else-c-lt-BLOCK : goal.returns-else-c-lt-BLOCK
returns-else-c-lt-BLOCK c = c.divides_unity-else-c-lt-BLOCK.ensures ∙ unity_decides c.requires (omega arith) c.if-leading-ne1.false

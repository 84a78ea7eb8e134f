-- `book::conditions::refusal` meets its contract: each return rewrites with the tests that led there.
-- Assumes nothing.
use mathlib.Core.Path.{sym}
use Rattle.spec_book.specs.Conditions.{book_refusal}
use Rattle.book.proofs.DualWords.{comparable, distinct_test}
use Rattle.book.proofs.Gathering.{gathered_limits}
use Rattle.book.proofs.conditions.refusal.Goals as goal

pub generator_ok-requires : goal.generator_ok-requires
generator_ok-requires c = c.requires

pub returns-then-not-generator_ok : goal.returns-then-not-generator_ok
unfolding book_refusal
returns-then-not-generator_ok c = rw (sym c.if-not-generator_ok.ensures)

pub returns-then-not-limits_ok : goal.returns-then-not-limits_ok
unfolding book_refusal
returns-then-not-limits_ok c = rw (sym c.if-not-generator_ok.ensures, ← gathered_limits c.requires, sym c.if-not-limits_ok.ensures)

pub duals_ok-requires : goal.duals_ok-requires
duals_ok-requires c = let h = c.requires in (h.read, h.duals_is, h.table)

pub returns-then-not-duals_ok : goal.returns-then-not-duals_ok
unfolding book_refusal
returns-then-not-duals_ok c =
    rw (sym c.if-not-generator_ok.ensures, ← gathered_limits c.requires, sym c.if-not-limits_ok.ensures, sym c.if-not-duals_ok.ensures)

pub distinct_ok-requires : goal.distinct_ok-requires
distinct_ok-requires c = let h = c.requires in comparable h.read h.duals_is (sym c.if-not-duals_ok.ensures)

pub returns-then-not-distinct_ok : goal.returns-then-not-distinct_ok
unfolding book_refusal
returns-then-not-distinct_ok c =
    rw (
      sym c.if-not-generator_ok.ensures,
      ← gathered_limits c.requires,
      sym c.if-not-limits_ok.ensures,
      sym c.if-not-duals_ok.ensures,
      ← distinct_test c.requires.read c.requires.duals_is,
      sym c.if-not-distinct_ok.ensures,
    )

pub returns : goal.returns
unfolding book_refusal
returns c =
    rw (
      sym c.if-not-generator_ok.ensures,
      ← gathered_limits c.requires,
      sym c.if-not-limits_ok.ensures,
      sym c.if-not-duals_ok.ensures,
      ← distinct_test c.requires.read c.requires.duals_is,
      sym c.if-not-distinct_ok.ensures,
    )

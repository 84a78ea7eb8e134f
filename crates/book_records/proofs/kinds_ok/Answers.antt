-- `book_records::kinds_ok` meets its contract: each return rewrites with the tests that led there.
-- Assumes nothing.
use mathlib.Core.Path.{◌∙◌}
use native.Mathlib.Omega.{arith}
use borrow.Author.Tests.{eq-eqb, ne_eqb}
use borrow.Author.Rules.{rules}
use Rattle.book_records.proofs.Tested.{four_bytes, kinds_tested, whole_chosen}
use Rattle.book_records.proofs.kinds_ok.Goals as goal

pub bounds-book-0 : goal.bounds-book-0
bounds-book-0 c = search (rules, four_bytes _ c.requires)

pub returns-then-book-ne1 : goal.returns-then-book-ne1
returns-then-book-ne1 c =
    rw (
      kinds_tested _ c.is_long-long.ensures c.by_form-generator.ensures c.by_form-dual.ensures c.record-record.ensures.0,
      ne_eqb _ _ c.if-book-ne1.true,
    )

pub bounds-book-3 : goal.bounds-book-3
bounds-book-3 c = search (rules, four_bytes _ c.requires)

pub returns-then-book-generator : goal.returns-then-book-generator
returns-then-book-generator c =
    rw (
      kinds_tested _ c.is_long-long.ensures c.by_form-generator.ensures c.by_form-dual.ensures c.record-record.ensures.0,
      eq-eqb _ _ c.if-book-ne1.false,
      ne_eqb _ _ c.if-book-generator.true,
    )

pub bounds-book-record : goal.bounds-book-record
bounds-book-record c =
    let w = whole_chosen _ c.requires c.is_long-long.ensures (c.if-book-generator.false ∙ c.by_form-generator.ensures) in
    omega (arith, c.record-record.ensures.0, w.size)

pub returns-then-book-record-ne3 : goal.returns-then-book-record-ne3
returns-then-book-record-ne3 c =
    rw (
      kinds_tested _ c.is_long-long.ensures c.by_form-generator.ensures c.by_form-dual.ensures c.record-record.ensures.0,
      eq-eqb _ _ c.if-book-ne1.false,
      eq-eqb _ _ c.if-book-generator.false,
      ne_eqb _ _ c.if-book-record-ne3.true,
    )

pub dual_kinds_ok-requires : goal.dual_kinds_ok-requires
dual_kinds_ok-requires c =
    whole_chosen _ c.requires c.is_long-long.ensures (c.if-book-generator.false ∙ c.by_form-generator.ensures)

pub returns : goal.returns
returns c =
    rw (
      kinds_tested _ c.is_long-long.ensures c.by_form-generator.ensures c.by_form-dual.ensures c.record-record.ensures.0,
      eq-eqb _ _ c.if-book-ne1.false,
      eq-eqb _ _ c.if-book-generator.false,
      eq-eqb _ _ c.if-book-record-ne3.false,
    )
    c.dual_kinds_ok.ensures

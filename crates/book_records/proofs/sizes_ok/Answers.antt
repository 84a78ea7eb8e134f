-- `book_records::sizes_ok` meets its contract: each return rewrites with the tests that led there.
-- Assumes nothing.
use borrow.Author.Tests.{le-leb, lt-leb}
use Rattle.book_records.proofs.Tested.{sizes_tested}
use Rattle.book_records.proofs.sizes_ok.Goals as goal

pub returns-then-s-low : goal.returns-then-s-low
returns-then-s-low c =
    rw (sizes_tested _ c.is_long-long.ensures c.by_form-low.ensures c.by_form-high.ensures, lt-leb _ _ c.if-s-low.true)

pub returns-then-high-s : goal.returns-then-high-s
returns-then-high-s c =
    rw (
      sizes_tested _ c.is_long-long.ensures c.by_form-low.ensures c.by_form-high.ensures,
      le-leb _ _ c.if-s-low.false,
      lt-leb _ _ c.if-high-s.true,
    )

pub returns-then-p-lt1 : goal.returns-then-p-lt1
returns-then-p-lt1 c =
    rw (
      sizes_tested _ c.is_long-long.ensures c.by_form-low.ensures c.by_form-high.ensures,
      le-leb _ _ c.if-s-low.false,
      le-leb _ _ c.if-high-s.false,
      lt-leb _ _ c.if-p-lt1.true,
    )

pub returns-then-p-gt6 : goal.returns-then-p-gt6
returns-then-p-gt6 c =
    rw (
      sizes_tested _ c.is_long-long.ensures c.by_form-low.ensures c.by_form-high.ensures,
      le-leb _ _ c.if-s-low.false,
      le-leb _ _ c.if-high-s.false,
      le-leb _ _ c.if-p-lt1.false,
      lt-leb _ _ c.if-p-gt6.true,
    )

pub returns : goal.returns
returns c =
    rw (
      sizes_tested _ c.is_long-long.ensures c.by_form-low.ensures c.by_form-high.ensures,
      le-leb _ _ c.if-s-low.false,
      le-leb _ _ c.if-high-s.false,
      le-leb _ _ c.if-p-lt1.false,
      le-leb _ _ c.if-p-gt6.false,
    )

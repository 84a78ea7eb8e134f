-- `book_records::fits` meets its contract: each return rewrites with the tests that led there.
-- Assumes nothing.
use mathlib.Core.Path.{◌≡◌, sym, ◌∙◌, ap}
use Prim.Native.Nat.{ℕ, ◌+◌, ◌-◌, ◌/◌}
use native.Mathlib.Omega.{arith}
use borrow.Author.Tests.{le-leb, lt-leb}
use lib.Dec.{eqb}
use Rattle.spec_book.specs.Layout.{dual_count}
use Rattle.spec_book.specs.Conditions.{length_fits}
use Rattle.book_records.proofs.Tested.{none_fits}
use Rattle.book_records.proofs.fits.Goals as goal

-- the count of dual words, where records have `size` bytes
count_is : (w len : ℕ) {size count : ℕ} → size ≡ 1 + w → count ≡ (len - (size + 6)) / (1 + w) → dual_count w len ≡ count
count_is w len r e = ap (λ (x : ℕ). x / (1 + w)) (omega arith) ∙ sym e

pub returns-then-len-head : goal.returns-then-len-head
returns-then-len-head c = sym (none_fits _ _ (omega (arith, c.record_of-record.ensures.0)))

pub returns-then-count-lt1 : goal.returns-then-count-lt1
unfolding length_fits
returns-then-count-lt1 c = rw (count_is _ _ c.record_of-record.ensures.0 c.records_in-count.ensures, lt-leb _ _ c.if-count-lt1.true)

pub returns-then-count-gt-DUALS : goal.returns-then-count-gt-DUALS
unfolding length_fits
returns-then-count-gt-DUALS c =
    rw (
      count_is _ _ c.record_of-record.ensures.0 c.records_in-count.ensures,
      le-leb _ _ c.if-count-lt1.false,
      lt-leb _ _ c.if-count-gt-DUALS.true,
    )

pub returns : goal.returns
unfolding length_fits
returns c =
    rw (
      count_is _ _ c.record_of-record.ensures.0 c.records_in-count.ensures,
      le-leb _ _ c.if-count-lt1.false,
      le-leb _ _ c.if-count-gt-DUALS.false,
      c.record_of-record.ensures.0,
    )
    (ap (eqb c.args.len) (omega arith))

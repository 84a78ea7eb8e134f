-- `book_records::refusal` meets its contract: each return rewrites with the tests that led there.
-- Assumes nothing.
use mathlib.Core.Path.{sym}
use Rattle.spec_range.proofs.Tests.{true_test}
use Rattle.spec_book.proofs.Accepting.{own_length, whole}
use Rattle.book_records.specs.Records.{records_refusal}
use Rattle.book_records.proofs.refusal.Goals as goal

pub returns-then-not-length_ok : goal.returns-then-not-length_ok
unfolding records_refusal
returns-then-not-length_ok c = rw (sym c.if-not-length_ok.ensures)

pub kinds_ok-requires : goal.kinds_ok-requires
kinds_ok-requires c = true_test _ (sym c.if-not-length_ok.ensures)

pub returns-then-not-kinds_ok : goal.returns-then-not-kinds_ok
unfolding records_refusal
returns-then-not-kinds_ok c = rw (sym c.if-not-length_ok.ensures, sym c.if-not-kinds_ok.ensures)

pub sizes_ok-requires : goal.sizes_ok-requires
sizes_ok-requires c = whole _ (own_length _ (true_test _ (sym c.if-not-length_ok.ensures)) (true_test _ (sym c.if-not-kinds_ok.ensures)))

pub returns-then-not-sizes_ok : goal.returns-then-not-sizes_ok
unfolding records_refusal
returns-then-not-sizes_ok c = rw (sym c.if-not-length_ok.ensures, sym c.if-not-kinds_ok.ensures, sym c.if-not-sizes_ok.ensures)

pub symbols_ok-requires : goal.symbols_ok-requires
symbols_ok-requires c =
    let kinds = true_test _ (sym c.if-not-kinds_ok.ensures) in
    (whole _ (own_length _ (true_test _ (sym c.if-not-length_ok.ensures)) kinds), kinds, true_test _ (sym c.if-not-sizes_ok.ensures))

pub returns-then-not-symbols_ok : goal.returns-then-not-symbols_ok
unfolding records_refusal
returns-then-not-symbols_ok c =
    rw (sym c.if-not-length_ok.ensures, sym c.if-not-kinds_ok.ensures, sym c.if-not-sizes_ok.ensures, sym c.if-not-symbols_ok.ensures)

pub returns : goal.returns
unfolding records_refusal
returns c =
    rw (sym c.if-not-length_ok.ensures, sym c.if-not-kinds_ok.ensures, sym c.if-not-sizes_ok.ensures, sym c.if-not-symbols_ok.ensures)

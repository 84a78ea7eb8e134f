-- `shiftsum_burst` meets its contract: as many records are made as the list has, or none.
-- Assumes nothing.
use native.Mathlib.Omega.{arith}
use borrow.Author.Rules.{rules}
use Rattle.std.proofs.Common.{◌≡◌, length}
use Rattle.burst.specs.Said.{blank}
use Rattle.shiftsum.proofs.Filled.{upto_next}
use Rattle.shiftsum.proofs.Returned.{high, fits, returned, returned_refused}
use Rattle.shiftsum.proofs.shiftsum_burst.Goals as goal

pub record_at-requires : goal.record_at-requires
record_at-requires c =
    let a = c.args in
    omega (arith, high a.book.now a.words a.received.now a.answers.now a.records.now _ _ c.in-Ok.ensures)

pub bounds-records-m : goal.bounds-records-m
bounds-records-m c =
    let a = c.args in
    omega (arith, fits a.book.now a.words a.received.now a.answers.now a.records.now _ _ c.in-Ok.ensures, c.loop-m.auto.records)

pub returns-in-Err : goal.returns-in-Err
returns-in-Err c =
    let a = c.args in
    rw c.pack_refusal.ensures (returned_refused a.book.now a.words a.received.now a.answers.now a.records.now c.in-Err.why _ c.in-Err.ensures)

pub loop-m-preserved : goal.loop-m-preserved
loop-m-preserved c =
    let a = c.args in
    let long : length c.in-Ok.made.records ≡ 16 = search (rules, c.burst_made.type_inv, c.in-Ok.is) in
    let most = high a.book.now a.words a.received.now a.answers.now a.records.now _ _ c.in-Ok.ensures in
    let h = fits a.book.now a.words a.received.now a.answers.now a.records.now _ _ c.in-Ok.ensures in
    rw (c.record_at.ensures, c.loop-m.invariant)
    (upto_next c.loop-m.m c.in-Ok.made.records a.records.now blank (omega (arith, long, most)) (omega (arith, h)))

pub returns : goal.returns
returns c =
    let a = c.args in
    let e : c.loop-m.m ≡ c.in-Ok.made.count = omega arith in
    returned a.book.now a.words a.received.now a.answers.now a.records.now _ _ c.in-Ok.ensures _ (rw e at c.loop-m.invariant)

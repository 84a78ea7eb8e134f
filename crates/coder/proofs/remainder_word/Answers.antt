-- `coder::remainder_word` meets its contract: the number is one of the input's, or the remainder is written.
-- Assumes nothing.
use mathlib.Core.Path.{sym}
use native.Mathlib.Omega.{arith}
use Rattle.spec_operations.proofs.Wrote.{wrote_made}
use Rattle.book.proofs.Described.{params_sizes, degree_high}
use Rattle.coder.proofs.Opening.{ended, remainder-number, taken}
use Rattle.coder.proofs.Working.{room_within, division_fits, word-remainder}
use Rattle.coder.proofs.remainder_word.Goals as goal

pub returns : goal.returns
returns c =
    λ bytes b.
    let i = taken _ _ c.order-q.ensures c.in_ok-refusal.ensures in
    wrote_made (sym (remainder-number b _ _ c.order-q.ensures c.in_ok-refusal.ensures))
    (word-remainder b _ c.divide.ensures i.room_is c.store.ensures)

pub order-q-requires : goal.order-q-requires
order-q-requires c = (params_sizes _ _ c.requires.open_book.describes).p_high

pub returns-in_err-refusal : goal.returns-in_err-refusal
returns-in_err-refusal c = λ bytes b. ended _ _ c.from_residual.ensures.1 (remainder-number b _ _ c.order-q.ensures c.in_err-refusal.ensures)

pub divide-requires : goal.divide-requires
divide-requires c = division_fits c.requires.open_book _ (taken _ _ c.order-q.ensures c.in_ok-refusal.ensures)

pub store-requires : goal.store-requires
store-requires c =
    let i = taken _ _ c.order-q.ensures c.in_ok-refusal.ensures in
    room_within c.requires.open_book i (omega (arith, degree_high _ _ c.requires.open_book.describes)) (omega (arith, c.divide.auto.v))

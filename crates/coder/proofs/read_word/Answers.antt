-- `coder::read_word` meets its contract: the number is one of the input's, or the remainder tells whether the quotient is written.
-- Assumes nothing.
use mathlib.Core.Path.{refl}
use native.Mathlib.Omega.{arith}
use Rattle.spec_operations.proofs.Wrote.{wrote_refused, wrote_made}
use Rattle.spec_operations.proofs.Coding.{word_refused, no-code-word, code-word}
use Rattle.book.proofs.Described.{params_sizes, degree_high}
use Rattle.refusal.proofs.Numbers.{number-not_zero}
use Rattle.coder.proofs.Opening.{ended, read_number, taken}
use Rattle.coder.proofs.Working.{room_within, division_fits, word-tested, word_read}
use Rattle.coder.proofs.read_word.Goals as goal

pub returns : goal.returns
returns c =
    λ bytes b.
    let i = taken _ _ c.order-q.ensures c.in_ok-refusal.ensures in
    let tested = word-tested b _ c.divide.ensures c.if-not-is_zero.ensures in
    wrote_made (code-word _ _ _ (read_number b _ _ c.order-q.ensures c.in_ok-refusal.ensures) refl tested refl)
    (word_read b _ c.divide.ensures i.room_is c.store.ensures)

pub overflow_sub-k : goal.overflow_sub-k
overflow_sub-k c = omega (arith, degree_high _ _ c.requires.open_book.describes)

pub order-q-requires : goal.order-q-requires
order-q-requires c = (params_sizes _ _ c.requires.open_book.describes).p_high

pub returns-in_err-refusal : goal.returns-in_err-refusal
returns-in_err-refusal c =
    λ bytes b.
    ended _ _ c.from_residual.ensures.1 (word_refused _ _ _ (read_number b _ _ c.order-q.ensures c.in_err-refusal.ensures) (number-not_zero _))

pub divide-requires : goal.divide-requires
divide-requires c = division_fits c.requires.open_book _ (taken _ _ c.order-q.ensures c.in_ok-refusal.ensures)

pub is_zero-requires : goal.is_zero-requires
is_zero-requires c =
    let d = c.requires.open_book.describes in
    (omega (arith, degree_high _ _ d, (params_sizes _ _ d).n_high), omega (arith, degree_high _ _ d, (params_sizes _ _ d).n_high, c.divide.auto.v))

pub returns-then-not-is_zero : goal.returns-then-not-is_zero
returns-then-not-is_zero c =
    λ bytes b.
    let tested = word-tested b _ c.divide.ensures c.if-not-is_zero.ensures in
    wrote_refused (no-code-word _ _ _ (read_number b _ _ c.order-q.ensures c.in_ok-refusal.ensures) refl tested refl refl) (λ e. absurd (omega arith))

pub store-requires : goal.store-requires
store-requires c =
    let i = taken _ _ c.order-q.ensures c.in_ok-refusal.ensures in
    room_within c.requires.open_book i (omega arith) (omega (arith, c.divide.auto.quotient))

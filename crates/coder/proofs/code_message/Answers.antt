-- `coder::code_message` meets its contract: the number is one of the input's, or the product is written.
-- Assumes nothing.
use mathlib.Core.Path.{sym}
use native.Mathlib.Omega.{arith}
use Rattle.spec_operations.proofs.Wrote.{wrote_made}
use Rattle.book.proofs.Described.{params_sizes, degree_high}
use Rattle.coder.proofs.Opening.{ended, code-number, taken}
use Rattle.coder.proofs.Working.{room_within, product_fits, word_coded}
use Rattle.coder.proofs.code_message.Goals as goal

pub returns : goal.returns
returns c =
    λ bytes b.
    let i = taken _ _ c.order-q.ensures c.in_ok-refusal.ensures in
    wrote_made (sym (code-number b _ _ c.order-q.ensures c.message_fits-fits.ensures c.in_ok-refusal.ensures))
    (word_coded b i c.message_fits-fits.ensures c.product.ensures c.store.ensures)

pub overflow_sub-k : goal.overflow_sub-k
overflow_sub-k c = omega (arith, degree_high _ _ c.requires.open_book.describes)

pub order-q-requires : goal.order-q-requires
order-q-requires c = (params_sizes _ _ c.requires.open_book.describes).p_high

pub returns-in_err-refusal : goal.returns-in_err-refusal
returns-in_err-refusal c =
    λ bytes b. ended _ _ c.from_residual.ensures.1 (code-number b _ _ c.order-q.ensures c.message_fits-fits.ensures c.in_err-refusal.ensures)

pub product-requires : goal.product-requires
product-requires c =
    product_fits c.requires.open_book (taken _ _ c.order-q.ensures c.in_ok-refusal.ensures) c.message_fits-fits.ensures

pub store-requires : goal.store-requires
store-requires c =
    let i = taken _ _ c.order-q.ensures c.in_ok-refusal.ensures in
    room_within c.requires.open_book i (omega arith) (omega (arith, c.product.ensures.long))

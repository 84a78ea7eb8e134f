-- `burst::taking::refusal` meets its contract.
-- Assumes nothing.
use mathlib.Core.Path.{sym}
use native.Mathlib.Omega.{arith}
use Rattle.spec_range.proofs.Tests.{true_test}
use Rattle.spec_operations.specs.Burst.{burst_input_refusal}
use Rattle.spec_book.proofs.Inputs.{words_high}
use Rattle.book.proofs.Described.{params_sizes}
use Rattle.burst.proofs.Working.{burst_small, burst_number}
use Rattle.burst.proofs.taking.refusal.Goals as goal

pub returns-then-not-words_ok : goal.returns-then-not-words_ok
unfolding burst_input_refusal
returns-then-not-words_ok c = rw (sym c.if-not-words_ok.ensures)

pub exact-sized-requires : goal.exact-sized-requires
exact-sized-requires c =
    let s = params_sizes _ _ c.requires in
    (s.p_high, s.n_high, words_high _ (true_test _ (sym c.if-not-words_ok.ensures)))

pub order-requires : goal.order-requires
order-requires c = (params_sizes _ _ c.requires).p_high

pub overflow_mul-n : goal.overflow_mul-n
overflow_mul-n c = omega (arith, burst_small (params_sizes _ _ c.requires).n_high (words_high _ (true_test _ (sym c.if-not-words_ok.ensures))))

pub returns : goal.returns
returns c =
    burst_number _ _ c.requires _ _ _ _ _ (true_test _ (sym c.if-not-words_ok.ensures)) c.refusal.ensures c.order.ensures c.exact-sized.ensures

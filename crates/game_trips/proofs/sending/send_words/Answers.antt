-- `game_trips::sending::send_words` meets its contract.
-- Assumes nothing.
use mathlib.Core.Path.{sym}
use native.Mathlib.Omega.{arith}
use lib.Seq.{length-take-le}
use Rattle.spec_operations.proofs.Wrote.{wrote_made}
use Rattle.book.proofs.Described.{params_sizes, degree_high}
use Rattle.coder.proofs.Opening.{ended}
use Rattle.game_trips.proofs.Accepted.{send_number}
use Rattle.game_trips.proofs.sending.send_words.Goals as goal

pub order-requires : goal.order-requires
order-requires c = (params_sizes _ _ c.requires).p_high

pub overflow_sub-n : goal.overflow_sub-n
overflow_sub-n c = omega (arith, degree_high _ _ c.requires)

pub words_refusal-requires : goal.words_refusal-requires
words_refusal-requires c =
    let s = params_sizes _ _ c.requires in
    (omega (arith, s.n_high), s.n_high)

pub returns-in_err-words_refusal : goal.returns-in_err-words_refusal
returns-in_err-words_refusal c = ended _ _ c.from_residual.ensures.1 (send_number _ _ c.requires _ _ _ c.order.ensures c.in_err-words_refusal.ensures)

pub slice_bounds-word-end : goal.slice_bounds-word-end
slice_bounds-word-end c = (params_sizes _ _ c.requires).n_high

pub slice_bounds-code_all-end : goal.slice_bounds-code_all-end
slice_bounds-code_all-end c = sym (length-take-le _ _ (params_sizes _ _ c.requires).n_high)

pub code_all-requires : goal.code_all-requires
code_all-requires c = (
  c.requires,
  sym (send_number _ _ c.requires _ _ _ c.order.ensures c.in_ok-words_refusal.ensures),
  length-take-le _ _ (params_sizes _ _ c.requires).n_high,
)

pub returns : goal.returns
returns c = wrote_made (sym (send_number _ _ c.requires _ _ _ c.order.ensures c.in_ok-words_refusal.ensures)) c.code_all.ensures

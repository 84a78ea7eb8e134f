-- `burst::burst_words` meets its contract.
-- Assumes nothing.
use mathlib.Core.Path.{sym, ap, ◌∙◌}
use Prim.Native.Nat.{ℕ, ◌*◌}
use Rattle.std.proofs.lemmas.Result.{err_from_is_err_and}
use Rattle.spec_operations.proofs.Burst.{taken_burst}
use Rattle.burst.proofs.Answering.{burst_ends_refused, burst_ends_done, received, matrix_sized}
use Rattle.burst.proofs.burst_words.Goals as goal

pub returns-in_err-refusal : goal.returns-in_err-refusal
returns-in_err-refusal c =
    let p = err_from_is_err_and c.from_residual.result c.from_residual.ensures.1 in
    rw (p.1, p.2) (burst_ends_refused _ _ _ _ c.in_err-refusal.ensures)

pub decode_all-records-requires : goal.decode_all-records-requires
decode_all-records-requires c =
    let h = c.requires in
    let taken = taken_burst _ _ _ _ _ _ (sym c.in_ok-refusal.ensures) in (
      h.0,
      h.1,
      h.2,
      received _ _ h.0 _ _ taken,
      taken.answers_size ∙ ap (λ (n : ℕ). n * c.args.words) (sym h.0.n_is),
      taken.entries_size ∙ sym (matrix_sized _ _ h.0),
    )

pub returns : goal.returns
returns c = burst_ends_done _ _ _ (sym c.in_ok-refusal.ensures) c.decode_all-records.ensures.0

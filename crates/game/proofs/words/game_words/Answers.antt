-- `game::words::game_words` meets its contract.
-- Assumes nothing.
use mathlib.Core.Path.{sym, ◌∙◌}
use native.Mathlib.Omega.{arith}
use lib.Seq.{length-take-le}
use Rattle.std.proofs.lemmas.Result.{err_from_is_err_and}
use Rattle.spec_book.proofs.Inputs.{words_high}
use Rattle.book.proofs.Described.{params_sizes}
use Rattle.burst.proofs.Working.{burst_small}
use Rattle.game.proofs.Reading.{degree_le}
use Rattle.game.proofs.Answering.{games_refused, games_same, game_number, game_taken, answers_fit, matrix_fits}
use Rattle.game.proofs.words.game_words.Goals as goal

pub overflow_sub-k : goal.overflow_sub-k
overflow_sub-k c = degree_le c.requires.0

pub order-q-requires : goal.order-q-requires
order-q-requires c = (params_sizes _ _ c.requires.0).p_high

pub words_refusal-requires : goal.words_refusal-requires
words_refusal-requires c =
    let s = params_sizes _ _ c.requires.0 in
    (s.n_high, omega (arith, s.n_high))

pub returns-in_err-words_refusal : goal.returns-in_err-words_refusal
returns-in_err-words_refusal c =
    let p = err_from_is_err_and c.from_residual.result c.from_residual.ensures.1 in
    rw (p.1, p.2) (games_refused _ _ _ _ _ (game_number _ _ c.requires.0 _ _ _ c.in_err-words_refusal.ensures c.order-q.ensures))

pub overflow_mul-size : goal.overflow_mul-size
overflow_mul-size c =
    let h = c.requires in
    let taken = game_taken _ _ h.0 _ _ _ c.in_ok-words_refusal.ensures c.order-q.ensures in
    omega (arith, burst_small (params_sizes _ _ h.0).n_high (words_high _ taken.count))

pub matrix_size-matrix-requires : goal.matrix_size-matrix-requires
matrix_size-matrix-requires c = let s = params_sizes _ _ c.requires.0 in (s.p_high, s.n_high)

pub slice_bounds-take_words-end : goal.slice_bounds-take_words-end
slice_bounds-take_words-end c =
    let h = c.requires in
    let taken = game_taken _ _ h.0 _ _ _ c.in_ok-words_refusal.ensures c.order-q.ensures in
    answers_fit _ h.0.accepted _ _ taken _ h.0 h.3

pub slice_bounds-take_words-end-2 : goal.slice_bounds-take_words-end-2
slice_bounds-take_words-end-2 c =
    let h = c.requires in
    let taken = game_taken _ _ h.0 _ _ _ c.in_ok-words_refusal.ensures c.order-q.ensures in
    sym (length-take-le _ _ (answers_fit _ h.0.accepted _ _ taken _ h.0 h.3))

pub slice_bounds-take_words-end-3 : goal.slice_bounds-take_words-end-3
slice_bounds-take_words-end-3 c = let h = c.requires in matrix_fits _ _ h.0 h.4 c.matrix_size-matrix.ensures

pub slice_bounds-take_words-end-4 : goal.slice_bounds-take_words-end-4
slice_bounds-take_words-end-4 c = let h = c.requires in sym (length-take-le _ _ (matrix_fits _ _ h.0 h.4 c.matrix_size-matrix.ensures))

pub take_words-requires : goal.take_words-requires
take_words-requires c =
    let h = c.requires in
    let asked = c.in_ok-words_refusal.ensures in
    let taken = game_taken _ _ h.0 _ _ _ asked c.order-q.ensures in (
      h.0,
      h.1,
      h.2,
      length-take-le _ _ (answers_fit _ h.0.accepted _ _ taken _ h.0 h.3),
      length-take-le _ _ (matrix_fits _ _ h.0 h.4 c.matrix_size-matrix.ensures) ∙ c.matrix_size-matrix.ensures,
      sym (game_number _ _ h.0 _ _ _ asked c.order-q.ensures),
    )

pub returns : goal.returns
returns c = games_same (game_number _ _ c.requires.0 _ _ _ c.in_ok-words_refusal.ensures c.order-q.ensures) c.take_words.ensures

-- `game::words::take_words` meets its contract.
-- Assumes nothing.
use mathlib.Core.Path.{refl, sym, ap, ◌∙◌}
use Prim.Native.Nat.{ℕ, ◌*◌}
use native.Mathlib.Omega.{arith}
use Rattle.spec_book.proofs.Inputs.{words_high}
use Rattle.spec_operations.proofs.Game.{taken_game}
use Rattle.burst.proofs.Answering.{matrix_sized}
use Rattle.game.proofs.Reading.{open_book, k_is}
use Rattle.game.proofs.Answering.{games_held, games_whole, not_refused, decoded_game, game-readable, game-messages}
use Rattle.game.proofs.words.take_words.Goals as goal

pub burst_words-requires : goal.burst_words-requires
burst_words-requires c = let h = c.requires in (h.0, h.1, h.2)

pub unwrap-made-requires : goal.unwrap-made-requires
unwrap-made-requires c =
    let h = c.requires in
    not_refused _ h.0.accepted _ _ (taken_game _ _ _ _ h.5) c.burst_words.ensures (h.3 ∙ ap (λ (n : ℕ). n * c.args.words) h.0.n_is) refl
    (h.4 ∙ matrix_sized _ _ h.0)

pub held-held-requires : goal.held-held-requires
held-held-requires c =
    let h = c.requires in
    let taken = taken_game _ _ _ _ h.5 in
    let d =
    decoded_game _ h.0.accepted _ _ taken c.burst_words.ensures (h.3 ∙ ap (λ (n : ℕ). n * c.args.words) h.0.n_is) refl (h.4 ∙ matrix_sized _ _ h.0)
    c.unwrap-made.ensures
    in
    omega (arith, d.count_is, words_high _ taken.count)

pub returns-then-held-ne0 : goal.returns-then-held-ne0
returns-then-held-ne0 c =
    let h = c.requires in
    let d =
    decoded_game _ h.0.accepted _ _ (taken_game _ _ _ _ h.5) c.burst_words.ensures (h.3 ∙ ap (λ (n : ℕ). n * c.args.words) h.0.n_is) refl
    (h.4 ∙ matrix_sized _ _ h.0) c.unwrap-made.ensures
    in
    games_held _ _ _ _ refl (omega (arith, c.held-held.ensures, d.held-is, c.if-held-ne0.true)) c.if-held-ne0.true

pub read_all-requires : goal.read_all-requires
read_all-requires c =
    let h = c.requires in
    let taken = taken_game _ _ _ _ h.5 in
    let book = open_book h.0 h.1 in
    let d =
    decoded_game _ h.0.accepted _ _ taken c.burst_words.ensures (h.3 ∙ ap (λ (n : ℕ). n * c.args.words) h.0.n_is) refl (h.4 ∙ matrix_sized _ _ h.0)
    c.unwrap-made.ensures
    in
    let none = sym d.held-is ∙ sym c.held-held.ensures ∙ c.if-held-ne0.false in (
      record { bytes = c.args.book.now; open_book = book; readable = game-readable _ h.0.accepted _ _ taken d.answers_are none },
      words_high _ taken.count,
      omega (arith, h.3),
      taken.messages_size ∙ ap (λ (k : ℕ). k * c.args.words) (sym (k_is book)),
    )

pub returns : goal.returns
returns c =
    let h = c.requires in
    let taken = taken_game _ _ _ _ h.5 in
    let d =
    decoded_game _ h.0.accepted _ _ taken c.burst_words.ensures (h.3 ∙ ap (λ (n : ℕ). n * c.args.words) h.0.n_is) refl (h.4 ∙ matrix_sized _ _ h.0)
    c.unwrap-made.ensures
    in
    let none = sym d.held-is ∙ sym c.held-held.ensures ∙ c.if-held-ne0.false in
    games_whole _ _ _ _ refl none
    (c.read_all.ensures _ (open_book h.0 h.1) (game-readable _ h.0.accepted _ _ taken d.answers_are none)
    ∙ game-messages _ h.0.accepted _ _ taken d.answers_are)

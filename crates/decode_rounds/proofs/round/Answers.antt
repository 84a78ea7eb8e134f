-- `decode_rounds::round` meets its contract, whichever bytes hold the opened book, and whatever makes the matrix of a word.
-- Assumes nothing.
use mathlib.Core.Path.{refl, sym, ap, ◌∙◌}
use mathlib.Core.Bool.{false}
use Prim.Native.Nat.{◌^◌, ◌<◌}
use borrow.Author.Rules.{rules}
use native.Mathlib.Omega.{arith}
use Rattle.word_array.specs.Stored.{place}
use Rattle.book.proofs.Described.{params_sizes, degree_low, degree_high}
use Rattle.decode_rounds.specs.Rounds.{step_of}
use Rattle.decode_rounds.proofs.Stepping.{round_stored, round_empty, round_tested}
use Rattle.decode_rounds.proofs.round.Goals as goal

pub corrections-e-requires : goal.corrections-e-requires
corrections-e-requires c = let h = c.requires in (params_sizes _ _ h.open_book.describes, h.size)

pub add-next-requires : goal.add-next-requires
add-next-requires c =
    let high = (params_sizes _ _ c.requires.open_book.describes).n_high in
    (high, search (rules, high), search (rules, high))

pub is_zero-requires : goal.is_zero-requires
is_zero-requires c =
    let high = (params_sizes _ _ c.requires.open_book.describes).n_high in
    (omega (arith, high), search (rules, high))

pub returns-then-is_zero : goal.returns-then-is_zero
returns-then-is_zero c bytes make b hm =
    round_empty bytes make _ _ b.describes c.requires.word _ _ _ hm c.corrections-e.ensures c.add-next.ensures refl
    (sym c.is_zero.ensures ∙ c.if-is_zero.true)

pub remainder-requires : goal.remainder-requires
remainder-requires c =
    let h = c.requires in
    let d = h.open_book.describes in
    let s = params_sizes _ _ d in
    -- the corrections are symbols whatever the matrix is
    let stored = round_stored _ (λ f. c.args.m.now) _ _ d h.word _ _ _ refl c.corrections-e.ensures c.add-next.ensures in (
      s,
      degree_low _ _ d,
      degree_high _ _ d,
      search (rules, s.n_high),
      record {
        symbol = λ j l.
            let within : j < 255 = omega (arith, l, s.n_high) in
            let next : place c.add-next.result j < 2 ^ c.args.c.p = rw d.p_is (stored.symbol j within) in
            -- the word before the round has symbols too
            search (next, h.word.symbol j within);
      },
      h.open_book.table_is.multiples,
      h.long,
    )

pub is_zero-requires-2 : goal.is_zero-requires-2
is_zero-requires-2 c =
    let h = c.requires in
    let d = h.open_book.describes in
    let high = degree_high _ _ d in
    let word = (params_sizes _ _ d).n_high in
    (omega (arith, high, word), search (rules, high, h.long))

pub returns : goal.returns
returns c bytes make b hm =
    round_tested bytes make _ _ b.describes c.requires.word _ _ _ hm c.corrections-e.ensures c.add-next.ensures
    b.table_is c.remainder.ensures (c.changed-step.ensures ∙ ap (step_of false) c.is_zero-2.ensures)
    (sym c.is_zero.ensures ∙ c.if-is_zero.false)

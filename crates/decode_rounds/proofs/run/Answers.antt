-- `decode_rounds::run` meets its contract.
-- Assumes nothing.
use mathlib.Core.Path.{sym, ◌∙◌, subst}
use Prim.Native.Nat.{ℕ, ◌^◌, ◌<◌}
use native.Mathlib.Omega.{arith}
use borrow.Author.Rules.{rules}
use Rattle.sizes.proofs.Lengths.{blocks_high}
use Rattle.word_array.specs.Stored.{place}
use Rattle.book.proofs.Described.{params_sizes, degree_low, degree_high}
use Rattle.matrix_terms.specs.Terms.{already}
use Rattle.matrix.proofs.Whole.{listable}
use Rattle.decode_rounds.proofs.Stepping.{params_fillable, padded_symbols}
use Rattle.decode_rounds.proofs.Decoding.{decoded-clean, decoded-rounds}
use Rattle.decode_rounds.proofs.run.Goals as goal

pub load-r-requires : goal.load-r-requires
load-r-requires c =
    let h = c.requires in
    ((params_sizes _ _ h.describes).n_high, omega (arith, h.long))

pub remainder-requires : goal.remainder-requires
remainder-requires c =
    let h = c.requires in
    let d = h.describes in
    let s = params_sizes _ _ d in
    let blocks = blocks_high c.args.c.n in
    let high = s.n_high in
    (s, degree_low _ _ d, degree_high _ _ d, h.long, h.word, h.table_is.multiples, search (rules, blocks, high))

pub is_zero-requires : goal.is_zero-requires
is_zero-requires c =
    let d = c.requires.describes in
    let below = degree_high _ _ d in
    let high = (params_sizes _ _ d).n_high in
    (omega (arith, below, high), search (rules, below, high))

pub returns-then-is_zero : goal.returns-then-is_zero
returns-then-is_zero c =
    let h = c.requires in (
      decoded-clean _ _ _ c.args.received.now _ h.describes h.table_is c.remainder.ensures _ c.load-r.ensures
          (sym c.is_zero.ensures ∙ c.if-is_zero.true) c.args.m.now h.size c.clear.ensures,
      h.terms_room,
    )

pub ready-requires : goal.ready-requires
ready-requires c =
    let h = c.requires in
    (listable (params_fillable _ _ h.describes), h.terms_room.long, h.terms_room.kept)

pub go-requires : goal.go-requires
go-requires c =
    let h = c.requires in
    let blocks = blocks_high c.args.c.n in
    let high = (params_sizes _ _ h.describes).n_high in
    record {
      bytes = c.args.book.now;
      prepared = record { describes = h.describes; table_is = h.table_is; terms_are = c.ready.ensures.0 };
      word =
          padded_symbols c.load-r.ensures (λ j l.
          subst (λ (k : ℕ). place c.args.received.now k < 2 ^ c.args.c.p) (omega arith) (h.word.symbol j l));
      size = h.size;
      long = search (rules, blocks, high);
    }

pub returns : goal.returns
returns c =
    let h = c.requires in
    let terms = c.ready.ensures in (
      decoded-rounds _ _ _ c.args.received.now _ h.describes h.table_is c.remainder.ensures _ c.load-r.ensures
          (sym c.is_zero.ensures ∙ c.if-is_zero.false)
          (c.go.ensures _ (record { describes = h.describes; table_is = h.table_is; terms_are = terms.0 })),
      record { long = omega (arith, h.terms_room.long, terms.1); kept = already terms.0 },
    )

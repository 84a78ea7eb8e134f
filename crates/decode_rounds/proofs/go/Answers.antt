-- `decode_rounds::go` meets its contract. The invariant: whichever bytes hold the opened book, what is left to run is the whole.
-- Assumes nothing.
use mathlib.Core.Path.{◌≡◌, refl, ap, ◌∙◌}
use mathlib.Core.List.{List}
use Prim.Native.Nat.{ℕ}
use native.Mathlib.Omega.{arith}
use borrow.Author.Rules.{rules}
use lib.ListN.{length}
use Rattle.spec_decoding.proofs.Matrix.{matrix-length}
use Rattle.book.specs.Opened.{OpenBook}
use Rattle.book.specs.declared.Params.{Params}
use Rattle.book.proofs.Described.{params_matrix}
use Rattle.decode_rounds.specs.Rounds.{Prepared}
use Rattle.decode_rounds.proofs.Running.{left-all, left_more, ended-stalled, ended-mended, ended_spent}
use Rattle.decode_rounds.proofs.go.Invariants.{make}
use Rattle.decode_rounds.proofs.go.Goals as goal

-- an opened book, without its terms
open_book : {bytes t terms : List ℕ} {c : Params} → Prepared bytes c t terms → OpenBook bytes c t
open_book p = record { describes = p.describes; table_is = p.table_is }

pub loop-made-init : goal.loop-made-init
loop-made-init c = (refl, refl, c.requires.word, λ bytes p. left-all bytes p.describes.accepted (make bytes) _ _)

pub make_matrix-requires : goal.make_matrix-requires
make_matrix-requires c =
    let h = c.requires in
    let i = c.loop-made.invariant in
    record {
      bytes = h.bytes;
      describes = h.prepared.describes;
      terms_are = h.prepared.terms_are;
      word = search (rules, i.2, h.word);
      size = i.0 ∙ h.size;
    }

pub round-s-requires : goal.round-s-requires
round-s-requires c =
    let i = c.loop-made.invariant in
    let h = c.requires in
    let d = h.prepared.describes in
    record {
      bytes = h.bytes;
      open_book = open_book h.prepared;
      word = i.2;
      size = params_matrix _ _ d (ap length (c.make_matrix.ensures h.bytes d h.prepared.terms_are) ∙ matrix-length _ _ _ _);
      long = search (rules, i.1, h.long);
    }

pub shape_of-m-in-Empty : goal.shape_of-m-in-Empty
shape_of-m-in-Empty c = search (rules, c.loop-made.invariant.0)

pub shape_of-rest-in-Empty : goal.shape_of-rest-in-Empty
shape_of-rest-in-Empty c = search (rules, c.loop-made.invariant.1)

pub returns-in-Empty : goal.returns-in-Empty
returns-in-Empty c bytes p =
    let d = p.describes in
    ended-stalled bytes d.accepted (make bytes) _ _ _ _ (c.loop-made.invariant.3 bytes p)
    (omega (arith, d.rounds_is, c.loop-made-test.true)) _ (c.round-s.ensures bytes (make bytes) (open_book p) (c.make_matrix.ensures bytes d p.terms_are))
    c.in-Empty.is

pub shape_of-m-in-Reached : goal.shape_of-m-in-Reached
shape_of-m-in-Reached c = search (rules, c.loop-made.invariant.0)

pub shape_of-rest-in-Reached : goal.shape_of-rest-in-Reached
shape_of-rest-in-Reached c = search (rules, c.loop-made.invariant.1)

pub returns-in-Reached : goal.returns-in-Reached
returns-in-Reached c bytes p =
    let d = p.describes in
    ended-mended bytes d.accepted (make bytes) _ _ _ _ (c.loop-made.invariant.3 bytes p)
    (omega (arith, d.rounds_is, c.loop-made-test.true)) _ (c.round-s.ensures bytes (make bytes) (open_book p) (c.make_matrix.ensures bytes d p.terms_are))
    c.in-Reached.is

pub loop-made-preserved : goal.loop-made-preserved
loop-made-preserved c =
    let i = c.loop-made.invariant in
    let h = c.requires in (
      search (rules, i.0),
      search (rules, i.1),
      rw h.prepared.describes.p_is
          (c.round-s.ensures h.bytes (make h.bytes) (open_book h.prepared)
          (c.make_matrix.ensures h.bytes h.prepared.describes h.prepared.terms_are)).stored,
      λ bytes p.
          let d = p.describes in
          left_more bytes d.accepted (make bytes) _ _ _ _ (i.3 bytes p)
          (omega (arith, d.rounds_is, c.loop-made-test.true)) _
          (c.round-s.ensures bytes (make bytes) (open_book p) (c.make_matrix.ensures bytes d p.terms_are)) c.in-Going.is,
    )

pub shape_of-m : goal.shape_of-m
shape_of-m c = c.loop-made.invariant.0

pub shape_of-rest : goal.shape_of-rest
shape_of-rest c = c.loop-made.invariant.1

pub returns : goal.returns
returns c bytes p =
    let d = p.describes in
    let all : c.args.c.rounds ≡ c.loop-made.made = omega arith in
    rw all (ended_spent bytes d.accepted (make bytes) _ _ _ _ (c.loop-made.invariant.3 bytes p) (omega (arith, d.rounds_is, c.loop-made-test.false)))

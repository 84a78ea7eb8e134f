-- `book_alike::compare::pair_alike` meets its contract: signatures that differ tell it, else the words are compared.
-- Assumes nothing.
use mathlib.Core.Path.{ap, ap₂, ◌∙◌}
use Prim.Native.Nat.{ℕ}
use native.Mathlib.Omega.{arith}
use borrow.Author.Tests.{ne_eqb}
use Rattle.spec_field.specs.Symbols.{gf}
use Rattle.spec_word.specs.Alike.{alike}
use Rattle.book_alike.proofs.Words.{body_word, body_start, body_room, body_symbol}
use Rattle.book_alike.proofs.Differing.{unlike_told}
use borrow.Author.Rules.{rules}
use Rattle.book_alike.proofs.compare.pair_alike.Goals as goal

pub returns : goal.returns
returns c =
    c.alike.ensures ∙ ap₂ (alike (gf c.args.p) c.args.n) (body_word _ c.args.m c.dual_at.ensures c.args.n) c.requires.2.word

pub bounds-s-m : goal.bounds-s-m
bounds-s-m c = let s = c.requires in omega (arith, s.0.most, s.1.long, s.3)

pub bounds-s-l : goal.bounds-s-l
bounds-s-l c = let s = c.requires in omega (arith, s.0.most, s.1.long)

pub returns-then-s-m : goal.returns-then-s-m
returns-then-s-m c =
    let s = c.requires in
    unlike_told s.0 s.1 c.args.l c.args.m (omega arith) s.3 (ne_eqb _ _ c.if-s-m.true)

pub dual_at-requires : goal.dual_at-requires
dual_at-requires c = let s = c.requires in omega (arith, s.0.most, s.3)

pub overflow_add-dual_at : goal.overflow_add-dual_at
overflow_add-dual_at c =
    let earlier = c.requires.3 in
    search (rules, body_start _ c.args.m c.dual_at.ensures c.requires.0.tested.room (omega arith))

pub alike-requires : goal.alike-requires
alike-requires c =
    let h = c.requires.0.tested in
    let e = c.dual_at.ensures in
    let earlier = c.requires.3 in
    record {
      sizes = h.sizes;
      room = body_room _ c.args.m e c.args.n h.room h.spanned (omega arith);
      symbol = body_symbol _ c.args.m e h (omega arith);
      multiples = c.requires.2.multiples;
      first = ap (λ (f : ℕ → ℕ). f 0) c.requires.2.word ∙ c.requires.0.first c.args.l (omega arith);
    }

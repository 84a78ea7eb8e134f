-- `word_alike::signature` meets its contract. The invariant: b blocks are added up; the marks from place n on add nothing.
-- Assumes nothing.
use mathlib.Core.Path.{◌≡◌, ap, ◌∙◌}
use Prim.Native.Nat.{◌+◌}
use native.Mathlib.Omega.{arith}
use lib.ListN.{length}
use Rattle.spec_range.proofs.Loop.{padded-length}
use Rattle.word_array.specs.Stored.{place}
use Rattle.word_alike.proofs.Signing.{signed_to_none, signed_to_more, signed_to_end}
use Rattle.word_alike.proofs.signature.Goals as goal

pub returns : goal.returns
returns c =
    let s = c.requires in
    let all : c.loop-b.b ≡ c.args.blocks = omega arith in
    signed_to_end (λ j. place c.args.rows.now (c.args.from + j)) s.0 s.1 s.3 (rw all at c.loop-b.invariant)

pub loop-b-init : goal.loop-b-init
loop-b-init c =
    let s = c.args in
    signed_to_none s.n (λ j. place s.rows.now (s.from + j)) s.inside.now

pub marks-m-requires : goal.marks-m-requires
marks-m-requires c =
    let s = c.requires in
    (omega (arith, s.2), omega (arith, s.1, ap length s.3 ∙ padded-length 256 _ _))

pub loop-b-preserved : goal.loop-b-preserved
loop-b-preserved c =
    let s = c.args in
    signed_to_more s.n s.from c.loop-b.b s.rows.now s.inside.now c.loop-b.invariant c.marks-m.ensures c.squares-sum.ensures

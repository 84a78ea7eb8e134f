-- `decode_update::corrections` meets its contract. The invariant: the places below j hold what the counts admit of each column's symbol.
-- Assumes nothing.
use mathlib.Core.Path.{sym}
use native.Mathlib.Omega.{arith}
use lib.Pow.{pow_pos}
use Rattle.spec_range.proofs.Loop.{held_none, held_more}
use Rattle.spec_field.proofs.Gf.{gf_laws}
use Rattle.decode_update.specs.Rule.{admitted}
use Rattle.decode_update.proofs.Climbing.{row_within}
use Rattle.decode_update.proofs.Rule.{corrections_held}
use borrow.Author.Rules.{rules}
use Rattle.decode_update.proofs.corrections.Goals as goal

pub low_limit-low-requires : goal.low_limit-low-requires
low_limit-low-requires c =
    (search rules, omega (arith, row_within c.args.n (pow_pos c.args.p)))

pub slice_bounds-high_limit-end : goal.slice_bounds-high_limit-end
slice_bounds-high_limit-end c = sym c.peaks.ensures.1

pub high_limit-high-requires : goal.high_limit-high-requires
high_limit-high-requires c = (search rules, omega (arith, c.peaks.ensures.1))

pub loop-j-init : goal.loop-j-init
loop-j-init c = (search rules, held_none 255 _)

pub bounds-m-j : goal.bounds-m-j
bounds-m-j c =
    omega (arith, row_within c.args.n (pow_pos c.args.p))

pub loop-j-preserved : goal.loop-j-preserved
unfolding admitted
loop-j-preserved c =
    let low = c.low_limit-low.ensures in
    let high = c.high_limit-high.ensures in
    let e = c.chosen.ensures in
    (search rules, held_more _ (omega arith) (rw (low _ e.1, high _ e.2) e.0) c.loop-j.invariant.1)

pub returns : goal.returns
returns c =
    λ B e d.
    corrections_held _ (gf_laws _ c.requires.0.p_low c.requires.0.p_high) B _ _ _ e d c.peaks.ensures.0 (omega arith) c.loop-j.invariant.1

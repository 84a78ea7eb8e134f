-- `field::inv` meets its contract. The loop's invariant: the total, times the squares to come, is the inverse. Assumes nothing.
use mathlib.Core.Path.{◌≡◌, ap, ap₂, ◌∙◌}
use Prim.Native.Nat.{ℕ, suc, ◌+◌, ◌-◌}
use native.Mathlib.Omega.{arith}
use borrow.Author.Rules.{rules}
use lib.Pow.{pow_mono}
use Rattle.spec_field.specs.Symbols.{product}
use Rattle.spec_field.proofs.Power.{squares}
use Rattle.spec_field.proofs.Gf.{inverse-power}
use Rattle.field.proofs.inv.Goals as goal

pub loop-init : goal.loop-init
loop-init c = (
  search rules,
  c.requires.0,
  c.requires.3,
  pow_mono c.requires.0,
  inverse-power c.args.p c.requires.0 c.requires.1 c.args.a c.requires.2 c.requires.3,
)

pub loop-preserved : goal.loop-preserved
unfolding squares
loop-preserved c = let p = c.args.p in
    let square = c.loop.square in
    let total = c.loop.total in
    let i = c.loop.counter in
    let k : suc (p - (i + 1)) ≡ p - i = omega arith in
    let squared = c.mul-square.ensures.0 in (
      search rules,
      search rules,
      c.mul-square.ensures.1,
      c.mul-total.ensures.1,
      ap₂ (λ (x y : ℕ). squares p (p - (i + 1)) x y) squared (c.mul-total.ensures.0 ∙ ap (product p total) squared)
          ∙ ap (λ (n : ℕ). squares p n square total) k
          ∙ c.loop.invariant.4,
    )

pub returns : goal.returns
unfolding squares
returns c = let left : 0 ≡ c.args.p - c.loop.counter = omega arith in
    (ap (λ (n : ℕ). squares c.args.p n c.loop.square c.loop.total) left ∙ c.loop.invariant.4, c.loop.invariant.3)

-- `field::mul` meets its contract. The loop's invariant: what is summed, with the steps to come, makes the product. Assumes nothing.
use mathlib.Core.Path.{◌≡◌, ap, ap₂, ◌∙◌, sym, subst}
use Prim.Native.Nat.{ℕ, suc, ◌+◌, ◌-◌, ◌/◌, ◌^◌, ◌<◌}
use native.Mathlib.Omega.{arith}
use borrow.Author.Rules.{rules}
use lib.Bits.{bit_xor, xor_zero_r}
use Rattle.spec_field.specs.Symbols.{shift_add, product}
use Rattle.spec_field.proofs.ShiftAdd.{shift_add_step, product_in_steps}
use Rattle.spec_field.proofs.Gf.{times_x-below, product-below}
use Rattle.field.proofs.mul.Goals as goal

pub loop-init : goal.loop-init
loop-init c = (search rules, c.requires.2, product_in_steps c.args.p 6 c.args.a c.args.b c.requires.1 c.requires.2 c.requires.3)

pub loop-preserved : goal.loop-preserved
unfolding shift_add
loop-preserved c = let p = c.args.p in
    let total = c.loop.total in
    let shifted = c.loop.shifted in
    let rest = c.loop.rest in
    let i = c.loop.counter in
    let k : suc (6 - (i + 1)) ≡ 6 - i = omega arith in (
      search rules,
      subst (λ (x : ℕ). x < 2 ^ p) (sym c.times_x-shifted.ensures) (times_x-below p shifted c.requires.1 c.loop.invariant.1),
      ap₂ (λ (m t : ℕ). bit_xor (bit_xor total m) (shift_add p (6 - (i + 1)) t (rest / 2))) c.masked-total.ensures c.times_x-shifted.ensures
          ∙ shift_add_step p (6 - (i + 1)) total shifted rest
          ∙ ap (λ (n : ℕ). bit_xor total (shift_add p n shifted rest)) k
          ∙ c.loop.invariant.2,
    )

pub returns : goal.returns
unfolding shift_add
returns c = let p = c.args.p in
    let left : 0 ≡ 6 - c.loop.counter = omega arith in
    let made : c.loop.total ≡ product p c.args.a c.args.b =
    sym (xor_zero_r c.loop.total) ∙ ap (λ (n : ℕ). bit_xor c.loop.total (shift_add p n c.loop.shifted c.loop.rest)) left ∙ c.loop.invariant.2 in
    (made, subst (λ (x : ℕ). x < 2 ^ p) (sym made) (product-below p c.requires.0 c.requires.1 c.args.a c.args.b))

-- `field::times_x` meets its contract. Assumes nothing.
use mathlib.Core.Path.{ap, ap₂, ◌∙◌}
use Prim.Native.Nat.{ℕ, ◌*◌, ◌/◌, ◌%◌, ◌^◌}
use lib.Bits.{bit_xor}
use Rattle.spec_field.specs.Symbols.{times_x}
use Rattle.field.proofs.Masks.{double_fits}
use Rattle.field.proofs.times_x.Goals as goal

pub returns : goal.returns
unfolding times_x
returns c = let p = c.args.p in
    let a = c.args.a in
    ap (bit_xor (a * 2 % 256)) c.masked.ensures
    ∙ ap₂ (λ (x m : ℕ). bit_xor x (x / 2 ^ p % 2 * m)) (double_fits p a c.requires.0 c.requires.2) c.requires.1

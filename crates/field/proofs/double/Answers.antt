-- `field::double` meets its contract. Assumes nothing.
use mathlib.Core.Path.{sym, subst}
use Prim.Native.Nat.{ℕ, ◌^◌, ◌<◌}
use Rattle.spec_field.proofs.Gf.{times_x-below}
use Rattle.field.proofs.double.Goals as goal

pub returns : goal.returns
returns c = let p = c.args.p in
    let made = c.times_x.ensures in
    (made, subst (λ (x : ℕ). x < 2 ^ p) (sym made) (times_x-below p c.args.a c.requires.1 c.requires.2))

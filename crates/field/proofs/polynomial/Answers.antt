-- `field::polynomial` meets its contract: a test at each p, which antt computes. Assumes nothing.
use mathlib.Core.Bool.{Bool}
use mathlib.Core.Path.{◌≡◌}
use Prim.Native.Nat.{ℕ, ◌*◌, ◌/◌, ◌%◌, ◌^◌, ◌≤◌, suc-le-suc}
use lib.Dec.{T, eqb, eqb→eq}
use Rattle.spec_field.specs.Symbols.{polynomial}
use Rattle.spec_range.specs.Fold.{fold, all}
use Rattle.spec_range.proofs.Table.{all-at}
use Rattle.field.proofs.polynomial.Goals as goal

-- byte p of a packed number
right : ℕ → ℕ → Bool
right packed p = eqb (packed / 2 ^ (8 * p) % 256) (polynomial p)

byte : (packed : ℕ) → T (all 7 (right packed)) → (p : ℕ) → p ≤ 6 → packed / 2 ^ (8 * p) % 256 ≡ polynomial p
unfolding right
byte packed t p h = eqb→eq _ (polynomial p) (all-at 7 (right packed) t p (suc-le-suc h))

pub returns : goal.returns
unfolding right polynomial fold
returns c = byte _ tt c.args.p c.requires

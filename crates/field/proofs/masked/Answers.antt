-- `field::masked` meets its contract. Assumes nothing.
use borrow.Author.Rules.{rules}
use native.Mathlib.Omega.{arith}
use lib.Bits.{and_le_r}
use Rattle.field.proofs.Masks.{mask_by_low}
use Rattle.field.proofs.masked.Goals as goal

pub overflow_mul-result : goal.overflow_mul-result
overflow_mul-result c = omega (arith, and_le_r c.args.b 1)

pub returns : goal.returns
returns c = mask_by_low c.args.b c.args.a (search rules)

-- `word_alike::squares` meets its contract. The invariant: `sum` is that of the squares below place j.
-- Assumes nothing.
use mathlib.Core.Path.{◌≡◌}
use native.Mathlib.Omega.{arith}
use Rattle.word_array.specs.Stored.{place}
use Rattle.word_alike.proofs.Signing.{squares_none, squares_more, square_high}
use borrow.Author.Rules.{rules}
use Rattle.word_alike.proofs.squares.Goals as goal

pub loop-j-init : goal.loop-j-init
loop-j-init c = squares_none c.args.m.now (search rules)

pub overflow_mul-sum : goal.overflow_mul-sum
overflow_mul-sum c = omega (arith, square_high {x = place c.args.m.now c.loop-j.j} (search rules))

pub overflow_add-sum : goal.overflow_add-sum
overflow_add-sum c = omega (arith, square_high {x = place c.args.m.now c.loop-j.j} (search rules))

pub loop-j-preserved : goal.loop-j-preserved
loop-j-preserved c = squares_more c.args.m.now c.args.before c.loop-j.j c.loop-j.invariant

pub returns : goal.returns
returns c = let e : c.loop-j.j ≡ 64 = omega arith in rw e at c.loop-j.invariant

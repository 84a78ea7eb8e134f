-- `word_alike::mark` meets its contract: each product is a byte.
-- Assumes nothing.
use mathlib.Core.Path.{refl}
use Rattle.word_alike.specs.Signature.{mark_of}
use Rattle.word_alike.proofs.Signing.{test_byte}
use borrow.Author.Rules.{rules}
use Rattle.word_alike.proofs.mark.Goals as goal

pub overflow_mul-result : goal.overflow_mul-result
overflow_mul-result c = search (rules, test_byte c.args.a)

pub overflow_mul-result-2 : goal.overflow_mul-result-2
overflow_mul-result-2 c = search (rules, test_byte c.args.b)

pub overflow_mul-result-3 : goal.overflow_mul-result-3
overflow_mul-result-3 c = search (rules, test_byte c.args.c)

pub overflow_mul-result-4 : goal.overflow_mul-result-4
overflow_mul-result-4 c = search (rules, test_byte c.args.d)

pub overflow_mul-result-5 : goal.overflow_mul-result-5
overflow_mul-result-5 c = search (rules, test_byte c.args.e)

pub returns : goal.returns
unfolding mark_of
returns c = refl

-- `word_array::distance` meets its contract. The invariant: `count` is the number of places below j where the words differ.
-- Assumes nothing.
use native.Mathlib.Omega.{arith}
use borrow.Author.Rules.{rules}
use Rattle.spec_word.specs.Word.{distance}
use Rattle.word_array.proofs.Counted.{counted_none, counted_more, counted-byte, counted_end}
use Rattle.word_array.proofs.distance.Goals as goal

pub loop-j-init : goal.loop-j-init
loop-j-init c = counted_none _ _

pub overflow_add-count : goal.overflow_add-count
overflow_add-count c = let small = c.requires.0 in
    search (rules, counted-byte c.loop-j.invariant (search rules) (omega arith))

pub loop-j-preserved : goal.loop-j-preserved
loop-j-preserved c = counted_more c.loop-j.invariant (omega arith)

pub overflow_cast-result : goal.overflow_cast-result
overflow_cast-result c = omega (arith, (counted_end c.loop-j.invariant (omega arith)).1, c.requires.0)

pub returns : goal.returns
unfolding distance
returns c = counted_end c.loop-j.invariant (omega arith)

-- `word_array::is_zero` meets its contract. The invariant: `found` is the number of nonzero places below j.
-- Assumes nothing.
use mathlib.Core.Path.{ap, ◌∙◌}
use mathlib.Core.Bool.{true, ◌&&◌}
use Prim.Native.Nat.{ℕ}
use native.Mathlib.Omega.{arith}
use lib.Dec.{eqb}
use Rattle.spec_range.proofs.Tests.{not_not}
use Rattle.spec_range.proofs.Fold.{fold_cong}
use Rattle.spec_range.proofs.Count.{none_counted}
use Rattle.spec_word.specs.Word.{nonzero}
use Rattle.spec_word.specs.Division.{all_zero}
use Rattle.word_array.specs.Stored.{place}
use Rattle.word_array.proofs.Counted.{counted_none, counted_more, counted-byte, counted_end}
use borrow.Author.Rules.{rules}
use Rattle.word_array.proofs.is_zero.Goals as goal

pub loop-j-init : goal.loop-j-init
loop-j-init c = counted_none _ _

pub overflow_add-found : goal.overflow_add-found
overflow_add-found c = let small = c.requires.0 in
    search (rules, counted-byte c.loop-j.invariant (search rules) (omega arith))

pub loop-j-preserved : goal.loop-j-preserved
loop-j-preserved c = counted_more c.loop-j.invariant (omega arith)

pub returns : goal.returns
unfolding all_zero
returns c = let s = c.args in
    ap (λ (x : ℕ). eqb x 0) (counted_end c.loop-j.invariant (omega arith)).0
    ∙ none_counted s.n (λ i. nonzero (place s.w.now i))
    ∙ fold_cong ◌&&◌ true s.n (λ i l. not_not (eqb (place s.w.now i) 0))

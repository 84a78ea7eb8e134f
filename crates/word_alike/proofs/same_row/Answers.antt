-- `word_alike::same_row` meets its contract. The invariant: `found` is the number of places below j that differ.
-- Assumes nothing.
use mathlib.Core.Path.{ap, ◌∙◌}
use mathlib.Core.Bool.{true, not, ◌&&◌}
use Prim.Native.Nat.{ℕ, ◌+◌}
use native.Mathlib.Omega.{arith}
use lib.Dec.{eqb}
use Rattle.spec_range.proofs.Tests.{not_not}
use Rattle.spec_range.proofs.Fold.{fold_cong}
use Rattle.spec_range.proofs.Count.{none_counted}
use Rattle.word_array.specs.Stored.{place}
use Rattle.word_array.proofs.Counted.{counted_none, counted_more, counted-byte, counted_end}
use Rattle.word_alike.specs.Compared.{same_row}
use borrow.Author.Rules.{rules}
use Rattle.word_alike.proofs.same_row.Goals as goal

pub loop-j-init : goal.loop-j-init
loop-j-init c = counted_none _ _

pub overflow_add-found-in-loop-j-2 : goal.overflow_add-found-in-loop-j-2
overflow_add-found-in-loop-j-2 c =
    let small = c.requires.0 in
    search (rules, counted-byte c.loop-j.invariant (search rules) (omega arith))

pub loop-j-preserved : goal.loop-j-preserved
loop-j-preserved c = counted_more c.loop-j.invariant (omega arith)

pub returns : goal.returns
unfolding same_row
returns c =
    let s = c.args in
    ap (λ (x : ℕ). eqb x 0) (counted_end c.loop-j.invariant (omega arith)).0
    ∙ none_counted s.n (λ j. not (eqb (place s.d.now (s.k + j)) (place s.t.now (s.from + j))))
    ∙ fold_cong ◌&&◌ true s.n (λ j l. not_not (eqb (place s.d.now (s.k + j)) (place s.t.now (s.from + j))))

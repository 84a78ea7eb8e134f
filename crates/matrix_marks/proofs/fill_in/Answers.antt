-- `matrix_marks::fill_in` meets its contract.
-- Assumes nothing.
use mathlib.Core.Path.{refl, ap, ◌∙◌, subst}
use Prim.Native.Nat.{ℕ, ◌^◌, ◌<◌}
use native.Mathlib.Omega.{arith}
use lib.ListN.{length-replicate}
use Rattle.word_array.specs.Stored.{place}
use Rattle.matrix_terms.specs.Count.{counted}
use Rattle.matrix_terms.proofs.Whole.{column_room, filled, all_le}
use Rattle.matrix_terms.proofs.Received.{word_read}
use Rattle.matrix_marks.proofs.Tallying.{tallied_gatherable, gathered_filled}
use borrow.Author.Rules.{rules}
use Rattle.matrix_marks.proofs.fill_in.Goals as goal

pub tabulate-requires : goal.tabulate-requires
tabulate-requires c = (
  c.requires.0.terms_of.numbers.sizes,
  omega (arith, c.requires.0.room),
  λ j l. subst (λ (k : ℕ). place c.args.r.now k < 2 ^ c.args.p) (omega arith) (c.requires.0.word j l),
  omega (arith, c.requires.1, length-replicate {A = ℕ} 2048 0),
)

pub count_duals-requires : goal.count_duals-requires
count_duals-requires c =
    record { words = c.requires.0.words; terms_of = c.requires.0.terms_of; multiples = c.tabulate.ensures.multiples; rooms = c.requires.2 }

pub gather-requires : goal.gather-requires
gather-requires c = tallied_gatherable c.count_duals.ensures c.blocks-2.ensures c.requires.0.terms_of.numbers c.requires.0.size

pub overflow_mul-duals : goal.overflow_mul-duals
overflow_mul-duals c = omega (arith, all_le c.requires.0.terms_of.numbers)

pub row_zero-requires : goal.row_zero-requires
row_zero-requires c = (
  c.requires.0.terms_of.numbers.sizes,
  search rules,
  column_room c.requires.0.terms_of.numbers.sizes
      (gathered_filled c.count_duals.ensures c.blocks-2.ensures c.requires.0.terms_of c.gather.ensures) refl,
)

pub returns : goal.returns
returns c = λ w all.
    filled c.requires.0.terms_of.numbers.sizes (gathered_filled c.count_duals.ensures c.blocks-2.ensures all c.gather.ensures) refl
    c.row_zero.ensures
    ∙ ap (counted _ _ _ _) (word_read _ c.tabulate.ensures)

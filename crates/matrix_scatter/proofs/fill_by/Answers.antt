-- `matrix_scatter::fill_by` meets its contract.
-- Assumes nothing.
use mathlib.Core.Path.{refl, ◌∙◌}
use native.Mathlib.Omega.{arith}
use Rattle.matrix_terms.proofs.Whole.{all_le, column_room, filled}
use Rattle.matrix_scatter.proofs.Duals.{logged}
use Rattle.matrix_scatter.proofs.Whole.{scattering, rows_filled}
use Rattle.matrix_scatter.proofs.fill_by.Goals as goal

pub count_duals-requires : goal.count_duals-requires
count_duals-requires c = scattering c.requires.0 c.requires.1 c.requires.2

pub gather-requires : goal.gather-requires
gather-requires c = record {
  sizes = c.requires.0.terms_of.numbers.sizes;
  logged = logged c.requires.0.terms_of.numbers;
  long = omega (arith, c.requires.2.size, c.count_duals.auto);
  small = c.count_duals.ensures.most;
  size = c.requires.0.size;
}

pub overflow_mul-duals : goal.overflow_mul-duals
overflow_mul-duals c = omega (arith, all_le c.requires.0.terms_of.numbers)

pub row_zero-requires : goal.row_zero-requires
row_zero-requires c = (
  c.requires.0.terms_of.numbers.sizes,
  c.gather.ensures.long ∙ c.requires.0.size,
  column_room c.requires.0.terms_of.numbers.sizes (rows_filled c.requires.0.terms_of c.count_duals.ensures c.gather.ensures) refl,
)

pub returns : goal.returns
returns c = λ b h. filled h.numbers.sizes (rows_filled h c.count_duals.ensures c.gather.ensures) refl c.row_zero.ensures

-- `word_array::store` meets its contract.
-- Assumes nothing.
use mathlib.Core.Path.{◌∙◌}
use Rattle.word_array.proofs.Filled.{part_table}
use Rattle.word_array.proofs.store.Goals as goal

pub returns : goal.returns
returns c = c.copy_from_slice.ensures.after ∙ part_table _ _ c.requires

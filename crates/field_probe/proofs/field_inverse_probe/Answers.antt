-- `field_probe::field_inverse_probe` meets its contract.
-- Assumes nothing.
use mathlib.Core.Path.{ap, ◌∙◌}
use Rattle.spec_operations.specs.Packed.{result_of}
use Rattle.field_probe.proofs.field_inverse_probe.Goals as goal

pub returns : goal.returns
returns c = c.pack_symbol.ensures ∙ ap result_of c.inverse.ensures

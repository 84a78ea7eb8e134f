-- `shiftsum::shiftsum_check` meets its contract.
-- Assumes nothing.
use mathlib.Core.Path.{refl, ap, ◌∙◌}
use Rattle.spec_operations.specs.Packed.{result_of}
use Rattle.book.specs.Params.{said}
use Rattle.packing.proofs.Refusing.{packed_said}
use Rattle.shiftsum.proofs.shiftsum_check.Goals as goal

pub returns : goal.returns
returns c = packed_said said (λ why. refl) _ c.pack_checked.ensures ∙ ap result_of c.check.ensures

-- `matrix_probe::matrix_probe` meets its contract.
-- Assumes nothing.
use mathlib.Core.Path.{refl, ap, ◌∙◌}
use Rattle.spec_operations.specs.Packed.{result_of}
use Rattle.refusal.specs.Number.{said}
use Rattle.packing.proofs.Refusing.{packed_said}
use Rattle.matrix_probe.proofs.matrix_probe.Goals as goal

pub returns : goal.returns
returns c =
    let h = c.matrix.ensures in
    record { returns = packed_said said (λ why. refl) _ c.pack_done.ensures ∙ ap result_of h.says; buffer = h.buffer }

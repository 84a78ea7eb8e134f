-- `stream_text::put_hex` meets its contract. The invariant: the digits of the first i bytes are written.
-- Assumes nothing.
use mathlib.Core.Path.{◌≡◌}
use Prim.Native.Nat.{◌+◌, ◌*◌}
use lib.ListN.{take}
use Rattle.spec_program.specs.Line.{hex_of}
use Rattle.stream_text.specs.Printed.{Printed}
use Rattle.stream_text.proofs.put_hex.Given as goal

abbrev pub invariant-loop-i : goal.invariant-loop-i
invariant-loop-i l = (l.next ≡ l.at + 2 * l.i) × Printed l.initial.out l.at (hex_of (take l.i l.bytes)) l.out l.next

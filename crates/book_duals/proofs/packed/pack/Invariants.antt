-- `book_duals::packed::pack` meets its contract. The invariant: the places below j have the sum.
-- Assumes nothing.
use Prim.Native.Nat.{◌+◌, ◌*◌, ◌%◌, ◌^◌}
use lib.Bits.{bit_xor}
use Rattle.spec_range.proofs.Loop.{Over}
use Rattle.word_array.specs.Stored.{place}
use Rattle.book_duals.proofs.packed.pack.Given as goal

abbrev pub invariant-loop-j : goal.invariant-loop-j
invariant-loop-j l = Over l.j (λ j. bit_xor (place l.initial.out j) (place l.book (l.start + j) * 2 ^ l.shift % 256)) l.initial.out l.out

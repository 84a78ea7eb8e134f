-- `book_alike::signature::sign` meets its contract. The invariant: the signatures of the rows below i are stored.
-- Assumes nothing.
use Prim.Native.Nat.{◌+◌, ◌*◌}
use Rattle.word_array.specs.Stored.{place}
use Rattle.word_table.specs.Window.{Window}
use Rattle.word_alike.specs.Signature.{signature_of}
use Rattle.book_alike.proofs.signature.sign.Given as goal

abbrev pub invariant-loop-i : goal.invariant-loop-i
invariant-loop-i s = Window s.l s.i (λ i. signature_of s.n (λ j. place s.rows (128 * s.blocks * i + j))) s.initial.out s.out

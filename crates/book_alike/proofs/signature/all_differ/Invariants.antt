-- `book_alike::signature::all_differ` meets its contract. The invariant: `found` adds up how often each number below place l is found.
-- Assumes nothing.
use mathlib.Core.Path.{◌≡◌}
use Prim.Native.Nat.{◌*◌, ◌≤◌}
use Rattle.spec_range.specs.Fold.{total}
use Rattle.word_array.specs.Stored.{place}
use Rattle.book_alike.specs.Signed.{times_of}
use Rattle.book_alike.proofs.signature.all_differ.Given as goal

abbrev pub invariant-loop-l : goal.invariant-loop-l
invariant-loop-l now = (now.found ≡ total now.l (λ l. times_of now.s (place now.s l))) × (now.found ≤ now.l * 32)

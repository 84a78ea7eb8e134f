-- `decode_rounds::go` meets its contract. The invariant: whichever bytes hold the opened book, what is left to run is the whole.
-- Assumes nothing.
use mathlib.Core.Path.{◌≡◌}
use mathlib.Core.List.{List}
use Prim.Native.Nat.{ℕ, ◌-◌}
use lib.ListN.{length}
use Rattle.spec_book.specs.Layout.{field_of, book_of}
use Rattle.spec_decoding.specs.Matrix.{matrix}
use Rattle.word_array.specs.Stored.{Stored}
use Rattle.decode_rounds.specs.Rounds.{Prepared}
use Rattle.decode_rounds.proofs.Running.{Left}
use Rattle.decode_rounds.proofs.go.Given as goal

-- the matrices that the book in the bytes makes
abbrev pub make : List ℕ → (ℕ → ℕ) → List ℕ
make bytes = matrix (field_of bytes) (book_of bytes)

abbrev pub invariant-loop-made : goal.invariant-loop-made
invariant-loop-made l =
    (length l.m ≡ length l.initial.m)
    × (length l.rest ≡ length l.initial.rest)
    × Stored l.c.p 255 l.w
    × ((bytes : List ℕ) (h : Prepared bytes l.c l.t l.terms) → Left bytes h.describes.accepted (make bytes) l.made l.r l.w l.m)

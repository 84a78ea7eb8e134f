-- `book_alike::compare::like_earlier` meets its contract. The invariant: no dual word below m is like dual word l.
-- Assumes nothing.
use mathlib.Core.Bool.{not}
use Rattle.spec_range.proofs.Loop.{Passing}
use Rattle.spec_field.specs.Symbols.{gf}
use Rattle.spec_word.specs.Alike.{alike}
use Rattle.book_duals.specs.Duals.{dual_word}
use Rattle.book_alike.proofs.compare.like_earlier.Given as goal

abbrev pub invariant-loop-m : goal.invariant-loop-m
invariant-loop-m now = Passing now.l (λ m. not (alike (gf now.p) now.n (dual_word now.n now.book m) (dual_word now.n now.book now.l))) now.m

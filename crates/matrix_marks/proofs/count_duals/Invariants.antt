-- `matrix_marks::count_duals` meets its contract. The invariant: the dual words below l are counted, and the rooms are as long as before.
-- Assumes nothing.
use mathlib.Core.Path.{◌≡◌}
use lib.ListN.{length}
use Rattle.sizes.specs.Blocks.{span, stride}
use Rattle.word_table.specs.Multiples.{word_of}
use Rattle.matrix_marks.specs.Marks.{Tallied}
use Rattle.matrix_marks.proofs.count_duals.Given as goal

abbrev pub invariant-loop-l : goal.invariant-loop-l
invariant-loop-l s =
    (length s.w ≡ 256) × (length s.v ≡ length s.initial.v) × (length s.counts ≡ length s.initial.counts)
    × Tallied (stride s.n) (span s.n) s.p s.n s.duals s.terms (word_of (stride s.n) s.n s.t) s.l s.counts

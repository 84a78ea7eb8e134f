-- `book_duals::plain::products_vanish` meets its contract. The invariant: the products of the dual words below l are joined.
-- Assumes nothing.
use mathlib.Core.Path.{◌≡◌}
use lib.ListN.{length}
use Rattle.book_duals.specs.Duals.{dual_product}
use Rattle.book_duals.proofs.Joined.{Joined}
use Rattle.book_duals.proofs.plain.products_vanish.Given as goal

abbrev pub invariant-loop-l : goal.invariant-loop-l
invariant-loop-l l =
    (length l.left ≡ 256) × (length l.product ≡ 256) × Joined l.n (dual_product l.p l.n l.book) l.l l.left

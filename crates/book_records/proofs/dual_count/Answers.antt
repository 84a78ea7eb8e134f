-- `book_records::dual_count` meets its contract: what the length tells, by the book's own form.
-- Assumes nothing.
use mathlib.Core.Path.{◌≡◌, ◌∙◌, ap₂}
use mathlib.Core.Bool.{Bool, cond}
use Prim.Native.Nat.{ℕ, ◌+◌, ◌/◌}
use native.Mathlib.Omega.{arith}
use Rattle.spec_book.specs.Layout.{width, duals_in}
use Rattle.book_records.proofs.dual_count.Goals as goal

pub returns : goal.returns
unfolding width
returns c =
    let bytes = c.args.book.now in
    let e : c.records_in.result ≡ duals_in bytes =
    c.records_in.ensures
    ∙ ap₂ (λ (size : ℕ) (long : Bool). size / (1 + cond long 255 63)) (omega (arith, c.record-head.ensures.0)) c.is_long.ensures in
    (e, omega (arith, e, c.requires.count_high))

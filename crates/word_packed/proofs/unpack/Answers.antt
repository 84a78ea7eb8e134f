-- `word_packed::unpack` meets its contract. The invariant: the places below k are written.
-- Assumes nothing.
use Prim.Native.Nat.{ℕ, ◌/◌, ◌^◌, ◌<◌}
use mathlib.Core.Path.{◌≡◌}
use mathlib.Core.List.{List}
use native.Mathlib.Omega.{arith}
use lib.Bits.{and_le_r}
use lib.ListN.{length}
use Rattle.spec_range.proofs.Loop.{Over, over_none, over_more, over_table}
use Rattle.word_packed.proofs.Gathering.{lane_masked}
use borrow.Author.Rules.{rules}
use Rattle.word_packed.proofs.unpack.Goals as goal

-- there is a place to write
room : {k : ℕ} {f : ℕ → ℕ} {e₀ e : List ℕ} → length e₀ ≡ 8 → Over k f e₀ e → k < 8 → k < length e
room l h b = omega (arith, l, h.long)

pub loop-k-init : goal.loop-k-init
loop-k-init c = (search rules, over_none _ _)

pub overflow_cast-e : goal.overflow_cast-e
overflow_cast-e c = omega (arith, and_le_r (c.args.x / 2 ^ c.digits_below.result) 255)

pub bounds-e-k : goal.bounds-e-k
bounds-e-k c = room c.requires c.loop-k.invariant.1 c.loop-k-test.true

pub loop-k-preserved : goal.loop-k-preserved
loop-k-preserved c = (
  search rules,
  over_more _ (room c.requires c.loop-k.invariant.1 c.loop-k-test.true) (lane_masked 8 _ _ c.digits_below.ensures) c.loop-k.invariant.1,
)

pub shape_of-e : goal.shape_of-e
shape_of-e c = c.loop-k.invariant.1.long

pub returns : goal.returns
returns c = let e : c.loop-k.k ≡ 8 = omega arith in over_table 8 _ _ _ c.requires (rw e at c.loop-k.invariant.1)

-- `decode_update::widened` meets its contract. The invariant: the places below j are the slice's, the others the largest number.
-- Assumes nothing.
use Prim.Native.Nat.{ℕ, ◌≤◌, ◌<◌}
use mathlib.Core.Path.{◌≡◌, refl, ◌∙◌}
use mathlib.Core.Logic.{⊎_elim}
use native.Mathlib.Nat.{not-suc-le-zero}
use native.Mathlib.Omega.{arith}
use lib.ListN.{length-replicate, get_or-replicate}
use Rattle.spec_range.proofs.Loop.{over_none, over_more}
use Rattle.word_array.specs.Stored.{place}
use Rattle.decode_update.proofs.Search.{le_or_lt}
use borrow.Author.Count.{below_more}
use borrow.Author.Rules.{rules}
use Rattle.decode_update.proofs.widened.Goals as goal

pub loop-j-init : goal.loop-j-init
loop-j-init c = (search rules, over_none _ _, λ k l. absurd (not-suc-le-zero l))

pub loop-j-preserved : goal.loop-j-preserved
loop-j-preserved c =
    let i = c.loop-j.invariant in
    let b = c.shared_slice_known-1.given c.loop-j.j in
    (search rules, over_more _ (rw (i.1.long, length-replicate) (omega arith)) refl i.1, below_more _ _ i.2 (omega (arith, b)))

pub returns : goal.returns
returns c =
    let n = c.args.n in
    let h = c.loop-j.invariant.1 in
    let rest : (k : ℕ) → n ≤ k → k < 256 → place c.loop-j.w k ≡ 65535 =
    λ k l b. h.rest k (omega arith) ∙ get_or-replicate 256 k 65535 0 b in
    record {
      long = h.long ∙ length-replicate {A = ℕ} 256 65535;
      at = λ k l. h.at k (omega arith);
      rest = rest;
      most = λ k b. ⊎_elim (λ l. omega (arith, rest k l b)) (λ l. omega (arith, h.at k (omega arith), c.loop-j.invariant.2 k (omega arith))) (le_or_lt n k);
    }

-- `book_alike::distinct_ok` meets its contract: too few to be alike, by the signatures, or by comparing.
-- Assumes nothing.
use mathlib.Core.Path.{sym, ◌∙◌}
use native.Mathlib.Omega.{arith}
use Rattle.book_alike.proofs.Differing.{all_once, no_pair}
use Rattle.book_alike.proofs.distinct_ok.Goals as goal

pub returns-then-duals-lt2 : goal.returns-then-duals-lt2
returns-then-duals-lt2 c = no_pair _ _ _ c.if-duals-lt2.true

pub signatures-s-requires : goal.signatures-s-requires
signatures-s-requires c =
    let h = c.requires.tested in
    record { n_low = h.sizes.n_low; n_high = h.sizes.n_high; most = c.requires.most; room = h.room; spanned = h.spanned }

pub returns-then-all_differ : goal.returns-then-all_differ
returns-then-all_differ c =
    all_once c.requires c.signatures-s.ensures (sym c.all_differ.ensures ∙ c.if-all_differ.true)

pub pairs_ok-requires : goal.pairs_ok-requires
pairs_ok-requires c = (c.requires, c.signatures-s.ensures, omega (arith, c.requires.tested.sizes.together))

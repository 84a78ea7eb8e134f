-- What a sound state satisfies in its phase.
-- Assumes nothing.
use mathlib.Core.Path.{◌≡◌, subst}
use mathlib.Core.List.{List}
use Prim.Native.Nat.{ℕ}
use Rattle.book.specs.declared.Params.{Params}
use Rattle.stream_state.specs.declared.Phase.{Phase}
use Rattle.stream_state.specs.declared.Phase.TheVariants.{Opening, Answering}
use Rattle.stream_state.specs.declared.State.{State}
use Rattle.stream_state.specs.State.{Waiting, Serving, InPhase, Sound}

pub in_opening : (s : State) (t terms : List ℕ) → Sound s t terms → s.phase ≡ Opening → Waiting s
in_opening s t terms z e = subst (λ (q : Phase). InPhase q s t terms) e z.in_phase

pub in_answering : (s : State) (c : Params) (t terms : List ℕ) → Sound s t terms → s.phase ≡ Answering c → Serving s c t terms
in_answering s c t terms z e = subst (λ (q : Phase). InPhase q s t terms) e z.in_phase

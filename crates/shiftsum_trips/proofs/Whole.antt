-- A game over C of messages that were coded, from what the call returns and leaves: by the law about its answer.
-- Assumes nothing.
use mathlib.Core.Path.{◌≡◌, refl, ap, ◌∙◌}
use mathlib.Core.List.{List}
use Prim.Native.Nat.{ℕ}
use lib.ListN.{length}
use Rattle.spec_operations.specs.Packed.{result_of, Returns}
use Rattle.spec_operations.specs.Game.{game_size, game_refusal, game_held, game_values, game_messages}
use Rattle.spec_operations.specs.GameTrips.{send_refusal, sent}
use Rattle.spec_operations.specs.OverC.{BackWholeOverC}
use Rattle.spec_operations.proofs.Wrote.{wrote_made}
use Rattle.game_trips.proofs.Coded.{back_whole}

pub whole_over_c : (bytes : List ℕ) (words : ℕ) (burst old : List ℕ) {r : ℕ} {out : List ℕ}
    → Returns (game_refusal bytes words burst (length old)) (game_values (game_held bytes words burst)) (game_messages bytes words burst old) old r out
    → (f : List ℕ) → send_refusal bytes words f (length burst) ≡ 0 → burst ≡ sent bytes words f → length old ≡ game_size bytes words → BackWholeOverC r f out
whole_over_c bytes words burst old h f z e size =
    let both = back_whole bytes words f (length burst) z {back₀ = old} (wrote_made {old = burst} z e) (record { says = refl; buffer = h.buffer }) size in
    record { whole = h.returns ∙ ap result_of both.whole; given_back = both.given_back }

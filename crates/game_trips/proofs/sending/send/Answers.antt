-- `game_trips::sending::send` meets its contract.
-- Assumes nothing.
use mathlib.Core.Path.{refl}
use Rattle.spec_operations.specs.GameTrips.{send_refusal}
use Rattle.spec_operations.proofs.Wrote.{goes_on}
use Rattle.book.proofs.Rooms.{any_room}
use Rattle.coder.proofs.Opening.{not_opened}
use Rattle.game_trips.proofs.sending.send.Goals as goal

pub open-requires : goal.open-requires
open-requires c = any_room _ refl

pub returns-in_err-c : goal.returns-in_err-c
unfolding send_refusal
returns-in_err-c c = not_opened _ _ c.from_residual.ensures.1 _ _ c.in_err-c.ensures.0.0

pub send_words-requires : goal.send_words-requires
send_words-requires c = c.in_ok-c.ensures.0.0

pub returns : goal.returns
unfolding send_refusal
returns c = goes_on refl c.in_ok-c.ensures.0.0.accepted c.send_words.ensures

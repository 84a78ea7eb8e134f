-- `decode::decode_in` meets its contract.
-- Assumes nothing.
use Prim.Native.Nat.{ℕ}
use native.Mathlib.Omega.{arith}
use lib.ListN.{length-replicate}
use Rattle.std.proofs.lemmas.Result.{err_from_is_err_and}
use Rattle.decode.proofs.Answering.{listed_room, decodes_refused, decode_refused, decodes_same, decode-accepted}
use Rattle.decode.proofs.decode_in.Goals as goal

pub open-requires : goal.open-requires
open-requires g c = omega (arith, c.requires.table_fits, length-replicate {A = ℕ} g.row.TABLE_ROOM 0)

pub decode_word-requires : goal.decode_word-requires
decode_word-requires g c = let h = c.in_ok-c.ensures.0 in (h.0, h.1, listed_room c.requires h.0)

pub returns-in_err-c : goal.returns-in_err-c
returns-in_err-c g c =
    let p = err_from_is_err_and c.from_residual.result c.from_residual.ensures.1 in
    rw (p.1, p.2) (decodes_refused _ _ _ (decode_refused _ _ _ c.in_err-c.ensures.0.0 _ _))

pub returns : goal.returns
returns g c = decodes_same (decode-accepted _ _ c.in_ok-c.ensures.0.0.accepted _ _) c.decode_word.ensures.0

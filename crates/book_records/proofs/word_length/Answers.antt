-- `book_records::word_length` meets its contract: 2^s is at most 256, so that the shift loses nothing.
-- Assumes nothing.
use Prim.Native.Nat.{◌^◌, ◌≤◌}
use native.Mathlib.Omega.{arith}
use lib.Pow.{pow_pos, pow_mono}
use Rattle.book_records.proofs.word_length.Goals as goal

pub overflow_sub-result : goal.overflow_sub-result
overflow_sub-result c = let h : 2 ^ c.args.s ≤ 2 ^ 8 = pow_mono c.requires in omega (arith, pow_pos c.args.s)

pub returns : goal.returns
returns c = let h : 2 ^ c.args.s ≤ 2 ^ 8 = pow_mono c.requires in omega arith

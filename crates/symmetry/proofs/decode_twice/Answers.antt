-- `symmetry::decode_twice` meets its contract: what each call ensures, and their symmetry by one application of the theorem to both.
-- Assumes nothing.
use lib.ListN.{length}
use Rattle.spec_operations.proofs.Twice.{related}
use Rattle.symmetry.proofs.decode_twice.Goals as goal

pub returns : goal.returns
returns c =
    let a = c.args in
    let first = c.decode-first.ensures in
    let second = c.decode-second.ensures in
    record {
      decodes_first = first;
      decodes_second = second;
      moved = related _ (length a.answer.now) (length a.entries.now) (length a.answer2.now) (length a.entries2.now) first second;
    }

-- `symmetry::burst_twice` meets its contract: what each burst ensures, and the symmetry of every word by the theorem of the definitions.
-- Assumes nothing.
use Rattle.symmetry.proofs.Bursts.{related_bursts}
use Rattle.symmetry.proofs.burst_twice.Goals as goal

pub returns : goal.returns
returns c =
    let a = c.args in
    let first = c.decode_burst-first.ensures in
    let second = c.decode_burst-second.ensures in
    record {
      answered_first = first;
      answered_second = second;
      moved = related_bursts _ _ _ _ a.answers.now a.answers2.now a.entries.now a.entries2.now _ _ first second;
    }

-- `word_divide::divide` meets its contract.
-- Assumes nothing.
use Rattle.word_array.specs.Stored.{place}
use Rattle.word_table.proofs.Window.{window_at}
use Rattle.word_divide.proofs.Dividing.{dividend, divided_same}
use borrow.Author.Rules.{rules}
use Rattle.word_divide.proofs.divide.Goals as goal

pub divide_in-requires : goal.divide_in-requires
divide_in-requires c =
    let s = c.requires in
    (dividend s.0 s.1 s.2 (search rules) (search rules) s.5 s.6 c.copy.ensures s.4.symbol, s.7)

pub returns : goal.returns
returns c = divided_same _ (place c.args.w.now) c.requires.0 c.requires.1 (window_at c.copy.ensures) c.divide_in.ensures

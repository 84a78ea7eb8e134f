-- `word_divide::divide_unity` meets its contract.
-- Assumes nothing.
use native.Mathlib.Omega.{arith}
use Rattle.spec_word.specs.CyclicCode.{unity}
use Rattle.sizes.proofs.Lengths.{blocks_low}
use Rattle.word_table.proofs.Window.{window_at}
use Rattle.word_divide.proofs.Dividing.{dividend, divided_same, unity_symbol}
use borrow.Author.Rules.{rules}
use Rattle.word_divide.proofs.divide_unity.Goals as goal

pub put_unity-requires : goal.put_unity-requires
put_unity-requires c = (c.requires.0.n_low, omega (arith, c.requires.4, blocks_low c.args.n))

pub divide_in-requires : goal.divide_in-requires
divide_in-requires c =
    let s = c.requires in
    (dividend s.0 s.1 s.2 (search rules) (search rules) s.3 s.4 c.put_unity.ensures (λ j l. unity_symbol s.0 j), s.5)

pub returns : goal.returns
returns c = divided_same _ (unity c.args.n) c.requires.0 c.requires.1 (window_at c.put_unity.ensures) c.divide_in.ensures

-- `word_divide::divide_in` meets its contract. The invariant: the remainder of the coefficients from place i on stands from place i on, and the quotient's
-- places from i on are written.
-- Assumes nothing.
use Rattle.sizes.specs.Blocks.{stride}
use Rattle.word_divide.proofs.Dividing.{Dividing}
use Rattle.word_divide.proofs.divide_in.Given as goal

abbrev pub invariant-loop-i : goal.invariant-loop-i
invariant-loop-i l = Dividing (stride l.n) l.p l.n l.d l.k l.t l.initial.v l.initial.quotient l.i l.quotient l.v

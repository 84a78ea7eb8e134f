-- `stream_words::put_words` meets its contract. The invariant: the lines that are written, and those of what is left, are all.
-- Assumes nothing.
use mathlib.Core.Path.{◌≡◌}
use Rattle.stream_words.specs.Row.{Row}
use Rattle.stream_words.proofs.put_words.Given as goal

abbrev pub invariant-loop-word : goal.invariant-loop-word
invariant-loop-word l =
    goal.iterator-loop-word.can_next l.word-iterator × goal.iterator-loop-word.is_finite l.word-iterator
    × (l.word-iterator.size ≡ l.c.n)
    × Row l.book l.c l.t l.words l.initial.out l.at l.count l.terms l.answer l.entries l.out l.next l.word-iterator.rest.now

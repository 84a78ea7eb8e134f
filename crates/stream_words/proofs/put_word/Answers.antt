-- `stream_words::put_word` meets its contract: an answer's line, or a refusal's.
-- Assumes nothing.
use native.Mathlib.Omega.{arith}
use Rattle.stream_words.proofs.Words.{line-answered, rounds-small, line_refused}
use Rattle.stream_words.proofs.put_word.Goals as goal

pub put_answer-requires : goal.put_answer-requires
put_answer-requires c = (rounds-small _ _ c.requires.0 _ _ c.in-Ok.ensures.0, omega (arith, c.requires.0.answer_size))

pub returns-in-Ok : goal.returns-in-Ok
returns-in-Ok c = (
  rw (line-answered _ _ c.requires.0 _ _ c.in-Ok.ensures.0 c.from-letter.ensures) c.put_answer.ensures.printed,
  omega arith,
  c.in-Ok.ensures.1,
)

pub returns-in-Err : goal.returns-in-Err
returns-in-Err c = (
  rw (line_refused _ _ c.requires.0 _ _ c.in-Err.ensures.0) c.put_refusal.ensures.printed,
  omega arith,
  c.in-Err.ensures.1,
)

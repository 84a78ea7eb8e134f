-- `burst::taking::exact` meets its contract.
-- Assumes nothing.
use mathlib.Core.Path.{ap}
use native.Mathlib.Omega.{arith}
use borrow.Author.Tests.{eq-eqb, ne_eqb}
use lib.Dec.{eqb}
use Rattle.burst.proofs.Working.{burst_small}
use Rattle.burst.proofs.taking.exact.Goals as goal

pub overflow_mul-n : goal.overflow_mul-n
overflow_mul-n c = omega (arith, burst_small c.requires.1 c.requires.2)

pub returns-then-room-n : goal.returns-then-room-n
returns-then-room-n c = rw (ne_eqb _ _ c.if-room-n.true)

pub returns-then-list-words : goal.returns-then-list-words
returns-then-list-words c =
    let a = c.args in
    rw (eq-eqb _ _ c.if-room-n.false, ne_eqb a.list a.words (λ e. omega (arith, c.if-list-words.true, e)))

pub returns : goal.returns
returns c =
    let a = c.args in
    rw (eq-eqb _ _ c.if-room-n.false, eq-eqb a.list a.words (omega (arith, c.if-list-words.false)))
    (ap (eqb a.entries) c.matrix_size.ensures)

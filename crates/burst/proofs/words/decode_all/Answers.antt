-- `burst::words::decode_all` meets its contract. The invariant is `SoFar`: what stands after m words.
-- Assumes nothing.
use native.Mathlib.Omega.{arith}
use Rattle.book.proofs.Described.{params_sizes}
use Rattle.burst.proofs.Working.{part_end}
use Rattle.burst.proofs.Loop.{none_yet, one_more, all_of_them}
use Rattle.burst.proofs.words.decode_all.Goals as goal

pub loop-m-init : goal.loop-m-init
loop-m-init c = none_yet _ _ _ _ _ _ c.requires.2 c.requires.5 c.no_records-records.ensures

pub overflow_mul-start : goal.overflow_mul-start
overflow_mul-start c =
    let h = c.requires in
    let s = params_sizes _ _ h.0 in
    omega (arith, part_end c.loop-m.m _ c.loop-m-test.true s.n_high h.3.high)

pub overflow_add-end : goal.overflow_add-end
overflow_add-end c =
    let h = c.requires in
    let s = params_sizes _ _ h.0 in
    omega (arith, part_end c.loop-m.m _ c.loop-m-test.true s.n_high h.3.high)

pub decode_one-x-requires : goal.decode_one-x-requires
decode_one-x-requires c =
    let h = c.requires in
    let i = c.loop-m.invariant in
    (h.0, h.1, i.room, h.3, omega (arith, c.loop-m-test.true), omega (arith, c.decode_one-arg-in-loop-m-1.given.1), i.entries-long)

pub loop-m-preserved : goal.loop-m-preserved
loop-m-preserved c =
    let part = c.decode_one-arg-in-loop-m-1.given.1 in
    let turn = c.loop-m in
    let h = c.requires in
    one_more _ _ _ _ _ _ (omega arith) c.loop-m-test.true h.3.high turn.invariant c.decode_one-x.ensures.1
    c.decode_one-x.ensures.0 c.terms-1.given (omega (arith, c.answers-1.given.0, part))
    c.answers-1.given.1 c.entries-1.given

pub shape_of-terms : goal.shape_of-terms
shape_of-terms c = c.loop-m.invariant.terms_long

pub shape_of-answers : goal.shape_of-answers
shape_of-answers c = c.loop-m.invariant.answers-same

pub returns : goal.returns
returns c =
    let h = c.requires in
    (all_of_them _ _ _ _ _ _ c.loop-m.invariant (omega arith) h.3.low h.4, c.loop-m.invariant.room)

-- `game_trips::sending::code_all` meets its contract. The invariant is `SoFar`: the first m words stand in their places.
-- Assumes nothing.
use mathlib.Core.Path.{◌∙◌}
use native.Mathlib.Omega.{arith}
use Rattle.book.proofs.Described.{params_sizes, degree_high}
use Rattle.burst.proofs.Working.{part_end, part_within}
use Rattle.game_trips.proofs.Accepted.{count_high, k_high, messages_long, room_long, code_done, word_coded, all-sent}
use Rattle.game_trips.proofs.Mixing.{none_yet, one_more, all-mixed}
use Rattle.game_trips.proofs.sending.code_all.Goals as goal

pub overflow_sub-k : goal.overflow_sub-k
overflow_sub-k c = omega (arith, degree_high _ _ c.requires.0)

pub loop-m-init : goal.loop-m-init
loop-m-init c = none_yet _ _ _

pub overflow_mul-from : goal.overflow_mul-from
overflow_mul-from c =
    let h = c.requires in
    omega (arith, part_end c.loop-m.m _ c.loop-m-test.true (k_high _ _ h.0 _ _ _ h.1) (count_high _ _ h.0 _ _ _ h.1))

pub overflow_add-from : goal.overflow_add-from
overflow_add-from c =
    let h = c.requires in
    omega (arith, part_end c.loop-m.m _ c.loop-m-test.true (k_high _ _ h.0 _ _ _ h.1) (count_high _ _ h.0 _ _ _ h.1))

pub slice_bounds-code-end : goal.slice_bounds-code-end
slice_bounds-code-end c =
    let h = c.requires in
    omega (arith, part_within c.loop-m.m _ c.loop-m-test.true (messages_long _ _ h.0 _ _ _ h.1))

pub unwrap-requires : goal.unwrap-requires
unwrap-requires c =
    let h = c.requires in
    code_done _ _ h.0 _ _ _ h.1 c.loop-m-test.true _ (c.loop-m.auto.word ∙ h.2) _ c.code.ensures

pub mix-requires : goal.mix-requires
mix-requires c =
    let h = c.requires in (
      (params_sizes _ _ h.0).n_high,
      count_high _ _ h.0 _ _ _ h.1,
      c.loop-m-test.true,
      omega (arith, h.2),
      omega (arith, room_long _ _ h.0 _ _ _ h.1),
    )

pub loop-m-preserved : goal.loop-m-preserved
loop-m-preserved c =
    let h = c.requires in
    one_more _ _ _ c.loop-m.invariant (word_coded _ _ h.0 _ _ _ h.1 c.loop-m-test.true _ (c.loop-m.auto.word ∙ h.2) _ c.code.ensures) c.mix.ensures

pub returns : goal.returns
returns c =
    let h = c.requires in
    all-mixed _ _ _ c.loop-m.invariant (omega arith) (c.loop-m.auto.out ∙ room_long _ _ h.0 _ _ _ h.1) ∙ all-sent _ _ h.0 _ _ _ h.1

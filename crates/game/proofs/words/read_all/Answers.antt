-- `game::words::read_all` meets its contract. The invariant is `ReadSoFar`: what stands after m words.
-- Assumes nothing.
use mathlib.Core.Path.{◌≡◌, ap, ◌∙◌}
use borrow.Author.Rules.{rules}
use Prim.Native.Nat.{ℕ, ◌+◌, ◌*◌, ◌-◌}
use lib.ListN.{take, drop}
use native.Mathlib.Omega.{arith}
use Rattle.spec_word.proofs.Mixed.{part_taken}
use Rattle.book.proofs.Described.{params_sizes}
use Rattle.burst.proofs.Working.{part_end, part_within}
use Rattle.game.proofs.Reading.{degree_le, k_high, none_yet, word_read, one_more, all_read}
use Rattle.game.proofs.words.read_all.Goals as goal

pub overflow_sub-k : goal.overflow_sub-k
overflow_sub-k c = degree_le c.requires.0.open_book.describes

pub loop-m-init : goal.loop-m-init
loop-m-init c = none_yet _ _ _ _ _

pub overflow_mul-from : goal.overflow_mul-from
overflow_mul-from c =
    let h = c.requires in
    omega (arith, part_end c.loop-m.m _ c.loop-m-test.true (params_sizes _ _ h.0.open_book.describes).n_high h.1)

pub overflow_mul-to : goal.overflow_mul-to
overflow_mul-to c =
    let h = c.requires in
    omega (arith, part_end c.loop-m.m _ c.loop-m-test.true (k_high h.0.open_book.describes) h.1)

pub overflow_add-from : goal.overflow_add-from
overflow_add-from c =
    let h = c.requires in
    omega (arith, part_end c.loop-m.m _ c.loop-m-test.true (params_sizes _ _ h.0.open_book.describes).n_high h.1)

pub overflow_add-to : goal.overflow_add-to
overflow_add-to c =
    let h = c.requires in
    omega (arith, part_end c.loop-m.m _ c.loop-m-test.true (k_high h.0.open_book.describes) h.1)

pub read_word-requires : goal.read_word-requires
read_word-requires c = record { bytes = c.requires.0.bytes; open_book = c.requires.0.open_book }

pub unwrap-requires : goal.unwrap-requires
unwrap-requires c =
    let n = c.args.c.n in
    let m = c.loop-m.m in
    let below = c.loop-m-test.true in
    let whole : m * n + n - m * n ≡ n = omega arith in
    let word = ap (λ (k : ℕ). take k (drop (m * n) c.args.answers.now)) whole ∙ part_taken n c.args.answers.now m (part_within m _ below c.requires.2) in
    word_read _ _ _ _ c.args.messages.now c.requires.0 below _ word (omega arith) c.read_word.ensures

pub loop-m-preserved : goal.loop-m-preserved
loop-m-preserved c =
    let h = c.requires in
    let a = c.args in
    let m = c.loop-m.m in
    let n = a.c.n in
    let below = c.loop-m-test.true in
    let whole : m * n + n - m * n ≡ n = omega arith in
    let word = ap (λ (k : ℕ). take k (drop (m * n) a.answers.now)) whole ∙ part_taken n a.answers.now m (part_within m _ below h.2) in
    one_more _ _ _ _ _ (omega arith) below word (omega arith) c.loop-m.invariant (search rules)
    c.read_word.ensures

pub shape_of-messages : goal.shape_of-messages
shape_of-messages c = c.loop-m.invariant.same

pub returns : goal.returns
returns c = all_read _ _ _ _ _ c.loop-m.invariant (omega arith) c.requires.3

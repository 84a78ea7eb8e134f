-- `stream_io::pass` meets its contract: a turn answers a piece, and where no turn is left the end of input is answered.
-- Assumes nothing.
use Rattle.std.proofs.Common.{rules, arith, ◌≡◌, length, take, nat_eq, refl, sym, ◌∙◌}
use Rattle.std.proofs.lemmas.Bool.{eqb-true, eqb-false}
use Rattle.stream_io.proofs.Passing.{begins, passes, ends_read, ends_cut, ends_all}
use Rattle.stream_io.proofs.pass.Goals as goal

pub loop-left-init : goal.loop-left-init
loop-left-init g c = (
  record { sound = c.start-s.ensures.1 _ _ c.requires.0 c.requires.1; rooms = c.requires.2; input_kept = refl; output_kept = refl },
  begins _ _ _ _ _ c.turns-left.ensures c.start-s.ensures.0,
)

pub loop-left-preserved : goal.loop-left-preserved
loop-left-preserved g c =
    let count = c.take_piece-taken.result.count in
    let piece = c.take_piece-taken.new.piece in
    let size : length piece ≡ length c.args.input.now = search rules in (
      search rules,
      passes c.loop-left.invariant.1 c.loop-left-test.true _ _ (take count piece) _ _ _ _ _ _ _ (nat_eq count (length piece))
          c.take_piece-taken.ensures.bytes
          (λ f s. c.take_piece-taken.ensures.short f (omega (arith, eqb-false count (length piece) s, c.take_piece-taken.ensures.within)))
          (λ f. sym c.take_piece-taken.ensures.prefix ∙ eqb-true count (length piece) f ∙ size)
          c.step-stepped.ensures.0
          c.send-sent.ensures.sent
          c.send-sent.ensures.cut
          c.turns_left-left.ensures.value,
    )

pub returns-then-not-sent : goal.returns-then-not-sent
returns-then-not-sent g c wide =
    let passing = c.loop-left.invariant.1 in
    (passing.input, passing.came, passing.cut c.if-not-sent.true)

pub returns-then-not-send : goal.returns-then-not-send
returns-then-not-send g c wide =
    let passing = c.loop-left.invariant.1 in
    (passing.input, passing.came, ends_cut passing c.if-not-sent.false _ _ _ _ c.finish-end.ensures.0 c.finish-end.ensures.1 c.send.ensures.cut)

pub returns-then-failed : goal.returns-then-failed
returns-then-failed g c wide =
    let passing = c.loop-left.invariant.1 in
    (passing.input, passing.came, ends_read passing c.if-not-sent.false _ _ _ _ c.finish-end.ensures.0 c.finish-end.ensures.1 (c.send.ensures.sent c.if-not-send.false))

pub returns : goal.returns
returns g c wide =
    let passing = c.loop-left.invariant.1 in
    ends_all passing c.if-not-sent.false _ _ _ _ c.finish-end.ensures.0 c.finish-end.ensures.1 (omega (arith, c.loop-left-test.false)) c.if-failed.false wide
    (c.send.ensures.sent c.if-not-send.false)

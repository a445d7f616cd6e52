-- A run that begins at the end is joined, and one that does not is left.
use Rattle.vara_extents.proofs.Words.{◌+◌, arith, nat_tests}
use Rattle.vara_extents.proofs.JoinLaws.{join_two, join_first, join_apart}
use Rattle.vara_extents.proofs.WalkLaws.{none_left, placed_run}
use Rattle.vara_extents.proofs.walk.Extents.front.Goals as goal

pub loop-number-init : goal.loop-number-init
loop-number-init c =
    let first = placed_run c.args.self.now.runs c.args.self.now.next c.after-next.result c.bytes-bytes.result c.requires.ready.runs c.requires.ready.next c.requires.there c.bytes-bytes.ensures c.after-next.ensures.number in
    record { left = first.0; low = first.1; placed = c.after-next.ensures.placed; number = c.after-next.ensures.number }

pub overflow_add-extent-in-loop-number : goal.overflow_add-extent-in-loop-number
overflow_add-extent-in-loop-number c =
    let run = placed_run c.args.self.now.runs c.loop-number.next (record { number = c.loop-number.next.number + 1; at = 0; left = 0 }) c.bytes-bytes.result c.requires.ready.runs c.loop-number.invariant.placed
    (omega (arith, c.loop-number.invariant.number, c.loop-number-test.true)) c.bytes-bytes.ensures (λ i. c.loop-number.next.number + 1) in
    omega (arith, run.1, c.loop-number.invariant.low)

pub loop-number-preserved : goal.loop-number-preserved
loop-number-preserved c =
    let run = placed_run c.args.self.now.runs c.loop-number.next c.after-next-in-loop-number.result c.bytes-bytes.result c.requires.ready.runs c.loop-number.invariant.placed
    (omega (arith, c.loop-number.invariant.number, c.loop-number-test.true)) c.bytes-bytes.ensures c.after-next-in-loop-number.ensures.number in
    grind (arith, nat_tests, join_two, c.loop-number.invariant.left, c.if-next-extent.false, c.after-next-in-loop-number.ensures.placed, c.after-next-in-loop-number.ensures.number, c.loop-number.invariant.number)

pub returns-then-next-extent-clause-extent : goal.returns-then-next-extent-clause-extent
returns-then-next-extent-clause-extent c =
    let run = placed_run c.args.self.now.runs c.loop-number.next (record { number = c.loop-number.next.number + 1; at = 0; left = 0 }) c.bytes-bytes.result c.requires.ready.runs c.loop-number.invariant.placed
    (omega (arith, c.loop-number.invariant.number, c.loop-number-test.true)) c.bytes-bytes.ensures (λ i. c.loop-number.next.number + 1) in
    grind (arith, nat_tests, join_first, join_apart, c.loop-number.invariant.left, c.if-next-extent.true)

pub returns-clause-extent : goal.returns-clause-extent
returns-clause-extent c = grind (arith, nat_tests, none_left, c.loop-number.invariant.number, c.loop-number-test.false, c.loop-number.invariant.left)

use Rattle.std.proofs.Common.{◌≡◌, arith, filter, false}
use Rattle.std.proofs.lemmas.Grind.{common_steps}
use Rattle.serial_spec.specs.History.{concerns, marks_from}
use Rattle.reference.proofs.MarkLaws.{goes_on, stops}
use Rattle.reference.proofs.history.follows.Goals as goal

pub returns-in-None : goal.returns-in-None
returns-in-None c = (
  λ h. cc,
  λ a. absurd (stops (filter (concerns c.args.rank) c.args.order.now ≡ marks_from c.args.rank 0 0 false c.args.calls.now) c.args.rank c.loop-number.number c.loop-number.meetings
      c.loop-number.independent c.index-calls-number.result c.args.calls.now c.loop-number.left.now (omega arith) c.index-calls-number.is c.in-None.ensures c.loop-number.invariant.same a),
)

pub loop-number-preserved : goal.loop-number-preserved
loop-number-preserved c = record {
  same =
      goes_on (filter (concerns c.args.rank) c.args.order.now ≡ marks_from c.args.rank 0 0 false c.args.calls.now) c.args.rank c.loop-number.number c.loop-number.meetings
      c.meetings_after-meetings.result c.loop-number.independent c.mode_after-independent.result c.index-calls-number.result c.args.calls.now c.loop-number.left.now c.in-Some.rest.now
      (omega arith) c.index-calls-number.is c.meetings_after-meetings.ensures c.mode_after-independent.ensures c.in-Some.ensures c.loop-number.invariant.same;
  few = grind (arith, common_steps);
}

-- The ranks stand at their next meeting, or at their ends.
use Rattle.run_plan.proofs.Words.{◌≡◌, ◌-◌, most_calls, setting_of, meetings, IsCount, AreRunners, HaveArrived, arrived_all, order_in, plan_stage, HasPlannedAll}
use Rattle.run_plan.proofs.run.hold_meetings.Given as goal

abbrev pub invariant-meetings : goal.invariant-meetings
invariant-meetings g l = record {
  number : l.meetings ≡ meetings (order_in l.progress.steps);
  runners : AreRunners l.lent.script.now l.lent.header.now l.progress.size (order_in l.progress.steps) l.runners;
  arrived : HaveArrived l.lent.script.now l.runners;
  records : IsCount l.lent.header.now l.progress.size l.progress.records;
  planned : HasPlannedAll l.lent.script.now.hints (setting_of l.lent.script.now l.lent.header.now) l.fn.progress.steps l.progress.steps
      (plan_stage l.fn.progress.size l.fn.progress.records (arrived_all l.lent.header.now l.lent.script.now.calls l.fn.runners))
      (plan_stage l.progress.size l.progress.records (arrived_all l.lent.header.now l.lent.script.now.calls l.runners));
}

abbrev pub decreases-meetings : goal.decreases-meetings
decreases-meetings g l = most_calls - l.meetings

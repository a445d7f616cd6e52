-- The ranks so far have arrived, and the others hold no offer.
use Rattle.run_plan.proofs.Words.{◌≡◌, ℕ, ◌<◌, ◌≤◌, Some, None, slice_get, setting_of, meetings, calls_of, AreRunners, HasArrived, arrived_all, Runner, order_in, plan_stage, HasPlannedAll}
use Rattle.run_plan.proofs.run.arrive_all.Given as goal

abbrev pub invariant-loop-number : goal.invariant-loop-number
invariant-loop-number g l = record {
  longer : l.fn.progress.size ≤ l.progress.size;
  runners : AreRunners l.lent.script.now l.lent.header.now l.progress.size (order_in l.progress.steps) l.runners;
  met : meetings (order_in l.progress.steps) ≡ meetings (order_in l.fn.progress.steps);
  arrived : (r : ℕ) (runner : Runner) → r < l.number → slice_get l.runners r ≡ Some runner → HasArrived (calls_of l.lent.script.now r) runner;
  free : (r : ℕ) (runner : Runner) → l.number ≤ r → slice_get l.runners r ≡ Some runner → runner.held ≡ None;
  planned : (records : ℕ) → HasPlannedAll l.lent.script.now.hints (setting_of l.lent.script.now l.lent.header.now) l.fn.progress.steps l.progress.steps
      (plan_stage l.fn.progress.size records (arrived_all l.lent.header.now l.lent.script.now.calls l.fn.runners))
      (plan_stage l.progress.size records (arrived_all l.lent.header.now l.lent.script.now.calls l.runners));
  count : l.progress.records ≡ l.fn.progress.records;
}

-- The steps that the rank has made alone, up to where it stands.
use Rattle.run_plan.proofs.Words.{◌≡◌, ◌-◌, ◌≤◌, [], length, drop, None, most_calls, setting_of, IsCount, calls_of, IsRunner, arrived, order_in, rank_plan, HasPlanned}
use Rattle.run_plan.proofs.steps.arrive.Given as goal

abbrev pub invariant-alone : goal.invariant-alone
invariant-alone g l = record {
  longer : l.fn.progress.size ≤ l.progress.size;
  runner : IsRunner l.lent.script.now l.lent.header.now (order_in l.progress.steps) l.number l.runner;
  ended : l.runner.held ≡ None → drop (length l.runner.answers) (calls_of l.lent.script.now l.number) ≡ [];
  known : IsCount l.lent.header.now l.progress.size l.runner.rank.state.known;
  planned : HasPlanned l.lent.script.now.hints (setting_of l.lent.script.now l.lent.header.now) l.number
      (rank_plan l.fn.progress.steps l.fn.progress.size (arrived l.lent.header.now (calls_of l.lent.script.now l.number) l.fn.runner))
      (rank_plan l.progress.steps l.progress.size (arrived l.lent.header.now (calls_of l.lent.script.now l.number) l.runner));
  count : l.progress.records ≡ l.fn.progress.records;
}

abbrev pub decreases-alone : goal.decreases-alone
decreases-alone g l = most_calls - length l.runner.answers

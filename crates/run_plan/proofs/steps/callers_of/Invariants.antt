-- The ranks so far have come, and those that are left make all.
use Rattle.run_plan.proofs.Words.{◌≡◌, ◌++◌, drop, map, enumerate_from, meeting_callers, runner_caller}
use Rattle.run_plan.proofs.steps.callers_of.Given as goal

abbrev pub invariant-loop-rank : goal.invariant-loop-rank
invariant-loop-rank l = l.callers ++ map runner_caller (enumerate_from l.rank (drop l.rank l.runners)) ≡ meeting_callers l.runners

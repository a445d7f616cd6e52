-- The domains so far are planned.
use Rattle.step_plan.proofs.Words.{AreDivided}
use Rattle.step_plan.proofs.domains.plan_each.Given as goal

abbrev pub invariant-loop-number : goal.invariant-loop-number
invariant-loop-number l = AreDivided l.hints l.list l.cover l.domains l.number l.plans.items

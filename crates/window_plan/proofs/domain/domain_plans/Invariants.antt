-- The windows that are planned, and those that are left, are all.
use Rattle.window_plan.proofs.Words.{length, min, entries_left, turns_ahead, turns_of}
use Rattle.window_plan.proofs.PlanLaws.{IsPlanning}
use Rattle.window_plan.proofs.domain.domain_plans.Given as goal

abbrev pub invariant-windows : goal.invariant-windows
invariant-windows l =
    IsPlanning l.list (min l.size l.fn.domain.len) (turns_of l.size l.fn.domain l.cover) l.windows (entries_left l.entries) l.plans.items

abbrev pub decreases-windows : goal.decreases-windows
decreases-windows l = length (turns_ahead l.windows)

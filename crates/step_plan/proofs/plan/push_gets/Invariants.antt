-- The calls of the domains so far.
use Rattle.step_plan.proofs.Words.{◌≡◌, ◌++◌, take, loads_in}
use Rattle.step_plan.proofs.plan.push_gets.Given as goal

abbrev pub invariant-loop-domain : goal.invariant-loop-domain
invariant-loop-domain l = l.calls.items ≡ l.initial.calls.items ++ loads_in (take l.domain-index l.domains)

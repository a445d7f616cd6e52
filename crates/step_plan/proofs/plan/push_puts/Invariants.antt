-- The calls of the domains so far.
use Rattle.step_plan.proofs.Words.{◌≡◌, ◌++◌, take, stores_in}
use Rattle.step_plan.proofs.plan.push_puts.Given as goal

abbrev pub invariant-loop-domain : goal.invariant-loop-domain
invariant-loop-domain l = l.calls.items ≡ l.initial.calls.items ++ stores_in (take l.domain-index l.domains)

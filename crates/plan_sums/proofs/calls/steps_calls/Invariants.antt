-- The calls of the steps so far.
use Rattle.plan_sums.proofs.Words.{◌≡◌, take, calls_in}
use Rattle.plan_sums.proofs.calls.steps_calls.Given as goal

abbrev pub invariant-loop-step : goal.invariant-loop-step
invariant-loop-step l = l.calls.items ≡ calls_in (take l.step-index l.steps)

-- What the steps so far ask for.
use Rattle.plan_sums.proofs.Words.{◌≡◌, take, asked_in, naive_sum}
use Rattle.plan_sums.proofs.naive.naive_of.Given as goal

abbrev pub invariant-loop-step : goal.invariant-loop-step
invariant-loop-step l = l.naive ≡ naive_sum (asked_in l.direction (take l.step-index l.steps))

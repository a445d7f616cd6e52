-- The calls so far, by their kinds.
use Rattle.plan_sums.proofs.Words.{◌≡◌, take, counted}
use Rattle.plan_sums.proofs.calls.count.Given as goal

abbrev pub invariant-loop-call : goal.invariant-loop-call
invariant-loop-call l = l.counted ≡ counted l.unit (take l.call-index l.calls)

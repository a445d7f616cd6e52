-- What is asked for so far.
use Rattle.plan_sums.proofs.Words.{◌≡◌, ◌++◌, List, take, Asked, naive_sum}
use Rattle.plan_sums.proofs.naive.Naive.with.Given as goal

abbrev pub invariant-loop-one : goal.invariant-loop-one
invariant-loop-one l = (before : List Asked) → l.fn.self ≡ naive_sum before → l.naive ≡ naive_sum (before ++ take l.one-index l.asked)

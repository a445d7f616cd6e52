use Rattle.generated_run.proofs.Words.{◌≡◌, fold, pos, take, ◌+ℤ◌, sum_given}
use Rattle.generated_run.proofs.sums.sum_answers.Given as goal

abbrev pub invariant-loop-own : goal.invariant-loop-own
invariant-loop-own l = l.total ≡ fold (λ s own. fold (λ t a. t +ℤ sum_given a) s own) (pos 0) (take l.own-index l.answers)

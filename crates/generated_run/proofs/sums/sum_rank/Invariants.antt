use Rattle.generated_run.proofs.Words.{◌≡◌, fold, take, ◌+ℤ◌, sum_given}
use Rattle.generated_run.proofs.sums.sum_rank.Given as goal

abbrev pub invariant-loop-answer : goal.invariant-loop-answer
invariant-loop-answer l = l.total ≡ fold (λ t a. t +ℤ sum_given a) l.fn.start (take l.answer-index l.answers)

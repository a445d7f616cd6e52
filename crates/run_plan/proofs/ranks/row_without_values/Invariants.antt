-- The answers so far.
use Rattle.run_plan.proofs.Words.{◌≡◌, take, map, without_values}
use Rattle.run_plan.proofs.ranks.row_without_values.Given as goal

abbrev pub invariant-loop-answer : goal.invariant-loop-answer
invariant-loop-answer l = l.row ≡ map without_values (take l.answer-index l.answers)

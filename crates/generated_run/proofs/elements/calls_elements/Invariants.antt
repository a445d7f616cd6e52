use Rattle.generated_run.proofs.Words.{◌≡◌, map, sum, take, zip, call_done}
use Rattle.generated_run.proofs.elements.calls_elements.Given as goal

abbrev pub invariant-loop-number : goal.invariant-loop-number
invariant-loop-number l = l.total ≡ sum (map (λ p. call_done l.direction l.posts p) (take l.number (zip l.calls l.answers)))

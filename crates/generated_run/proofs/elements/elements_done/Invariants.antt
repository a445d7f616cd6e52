use Rattle.generated_run.proofs.Words.{◌≡◌, map, sum, take, zip, call_done}
use Rattle.generated_run.proofs.elements.elements_done.Given as goal

abbrev pub invariant-loop-rank : goal.invariant-loop-rank
invariant-loop-rank l = l.total ≡ sum (map (λ p. sum (map (λ q. call_done l.direction p.0 q) (zip p.0 p.1))) (take l.rank (zip l.calls l.answers)))

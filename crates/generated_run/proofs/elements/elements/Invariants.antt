use Rattle.generated_run.proofs.Words.{◌≡◌, take, product}
use Rattle.generated_run.proofs.elements.elements.Given as goal

abbrev pub invariant-loop-count : goal.invariant-loop-count
invariant-loop-count l = l.all ≡ product (take l.count-index l.count-items)

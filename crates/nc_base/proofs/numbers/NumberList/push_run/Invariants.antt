use Rattle.nc_base.proofs.Words.{◌≡◌, ◌++◌, steps}
use Rattle.nc_base.proofs.numbers.NumberList.push_run.Given as goal

abbrev pub invariant-loop-k : goal.invariant-loop-k
invariant-loop-k l = l.self ≡ l.initial.self ++ steps l.run.first l.run.step l.k

use Rattle.nc_base.proofs.Words.{◌≡◌, ◌++◌, steps}
use Rattle.nc_base.proofs.numbers.push_numbers.Given as goal

abbrev pub invariant-loop-k : goal.invariant-loop-k
invariant-loop-k l = l.out.items ≡ l.initial.out.items ++ steps l.run.first l.run.step l.k

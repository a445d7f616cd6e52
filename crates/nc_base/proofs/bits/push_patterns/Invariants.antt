use Rattle.nc_base.proofs.Words.{◌≡◌, ◌++◌, bit_steps}
use Rattle.nc_base.proofs.bits.push_patterns.Given as goal

abbrev pub invariant-loop-k : goal.invariant-loop-k
invariant-loop-k l = l.out.items ≡ l.initial.out.items ++ bit_steps l.run.first l.run.step l.k

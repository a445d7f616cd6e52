use Rattle.nc_base.proofs.Words.{◌≡◌, ◌++◌, bit_steps}
use Rattle.nc_base.proofs.bits.BitList.push_run.Given as goal

abbrev pub invariant-loop-k : goal.invariant-loop-k
invariant-loop-k l = l.self ≡ l.initial.self ++ bit_steps l.run.first l.run.step l.k

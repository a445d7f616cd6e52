use Rattle.nc_base.proofs.Words.{◌≡◌, ◌++◌, take}
use Rattle.nc_base.proofs.numbers.NumberList.push_each.Given as goal

abbrev pub invariant-loop-k : goal.invariant-loop-k
invariant-loop-k l = l.self ≡ l.initial.self ++ take l.k l.more

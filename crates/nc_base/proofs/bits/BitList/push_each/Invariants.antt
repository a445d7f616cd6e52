use Rattle.nc_base.proofs.Words.{◌≡◌, ◌++◌, take}
use Rattle.nc_base.proofs.bits.BitList.push_each.Given as goal

abbrev pub invariant-loop-k : goal.invariant-loop-k
invariant-loop-k l = l.self ≡ l.initial.self ++ take l.k l.more

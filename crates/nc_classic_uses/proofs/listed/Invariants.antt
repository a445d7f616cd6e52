-- The extents that are listed, and those that are left, are all.
use Rattle.std.proofs.Common.{◌≡◌, ◌++◌}
use Rattle.nc_classic.specs.Left.{extents_left}
use Rattle.nc_classic_uses.proofs.listed.Given as goal

abbrev pub invariant-loop-extent : goal.invariant-loop-extent
invariant-loop-extent l = l.list.items ++ extents_left l.extent-iterator ≡ extents_left l.fn.extents

use Rattle.vara_extents.proofs.Words.{◌≡◌, drop, some_meet}
use Rattle.vara_extents.proofs.boxes.some_meet_in_order.Given as goal

abbrev pub invariant-loop-k : goal.invariant-loop-k
invariant-loop-k l = some_meet (drop l.k l.regions) ≡ some_meet l.regions

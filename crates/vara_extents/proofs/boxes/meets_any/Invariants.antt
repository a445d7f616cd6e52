use Rattle.vara_extents.proofs.Words.{◌≡◌, drop, meets_any}
use Rattle.vara_extents.proofs.boxes.meets_any.Given as goal

abbrev pub invariant-loop-other : goal.invariant-loop-other
invariant-loop-other l = meets_any l.region (drop l.other-index l.others) ≡ meets_any l.region l.others

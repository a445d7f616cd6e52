use Rattle.vara_extents.proofs.Words.{◌≡◌, drop, refusal_of}
use Rattle.vara_extents.proofs.parts.first_refusal.Given as goal

abbrev pub invariant-loop-region : goal.invariant-loop-region
invariant-loop-region l =
    refusal_of l.header l.var (drop l.region-index l.regions) l.ends.known l.ends.direction ≡ refusal_of l.header l.var l.regions l.ends.known l.ends.direction

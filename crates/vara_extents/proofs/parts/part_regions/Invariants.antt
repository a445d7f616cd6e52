use Rattle.vara_extents.proofs.Words.{◌≡◌, map, take, part_region}
use Rattle.vara_extents.proofs.parts.part_regions.Given as goal

abbrev pub invariant-loop-part : goal.invariant-loop-part
invariant-loop-part l = l.regions.items ≡ map (part_region l.var) (take l.part-index l.parts)

use Rattle.vara_extents.proofs.Words.{◌≡◌, take, sum_by, Region, product, capped}
use Rattle.vara_extents.proofs.parts.elements_of_all.Given as goal

abbrev pub invariant-loop-region : goal.invariant-loop-region
invariant-loop-region l = l.elements ≡ capped (sum_by (λ (g : Region). product g.count) (take l.region-index l.regions))

use Rattle.vara_extents.proofs.Words.{List, ap, ◌∙◌, sum_by, take_all, Region, product, capped, sum_by_more, arith, nat_tests}
use Rattle.vara_extents.proofs.parts.elements_of_all.Goals as goal

pub loop-region-preserved : goal.loop-region-preserved
loop-region-preserved c = grind (arith, nat_tests, sum_by_more, c.sum-elements.ensures, c.loop-region-test.true, c.loop-region.invariant, c.elements_of.ensures, c.region-item.is)

pub returns : goal.returns
returns c =
    c.loop-region.invariant ∙ ap (λ (l : List Region). capped (sum_by (λ (g : Region). product g.count) l)) (take_all c.loop-region.region-index c.args.regions.now c.loop-region-test.false)

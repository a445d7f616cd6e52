use Rattle.vara_extents.proofs.Words.{◌∙◌, ap, subst, List, IsPermutation, with_items_is, length_permutation, Region, some_meet}
use Rattle.vara_extents.proofs.SweepLaws.{swept}
use Rattle.vara_extents.proofs.boxes.some_meet.Goals as goal

pub returns : goal.returns
returns c =
    let regions = c.put_in_order-axis.new.regions in
    let kept = c.as_mut_slice.ensures.value ∙ c.with_elements-full.ensures in
    let long = length_permutation c.as_mut_slice.result.now regions c.put_in_order-axis.ensures.permutation ∙ c.as_mut_slice.ensures.len in
    c.some_meet_in_order.ensures
    ∙ ap some_meet (c.as_slice.ensures.value ∙ with_items_is c.with_elements-full.result regions long)
    ∙ swept c.args.regions.items regions (subst (λ (l : List Region). IsPermutation l regions) kept c.put_in_order-axis.ensures.permutation)

-- The parts as regions, those without an element dropped.
use Rattle.rank_core.proofs.Words.{◌∙◌, ap, rules, List, map, filter, filter_same, Part, has_element, part_region}
use Rattle.rank_core.proofs.look.parts.asked_regions.Goals as goal

pub returns : goal.returns
returns c =
    filter_same _ has_element _ (λ x b h k. search rules) _ _ c.retain.ensures.filtered ∙ ap (filter has_element) (c.in_ok-regions.ensures ∙ ap (λ (ps : List Part). map (part_region c.args.var.now) ps) c.as_slice.ensures)

use Rattle.vara_extents.proofs.Words.{rules, filter_same, has_element}
use Rattle.vara_extents.proofs.boxes.with_elements.Goals as goal

pub returns : goal.returns
returns c = filter_same _ has_element _ (λ x b h k. search rules) _ _ c.retain.ensures.filtered

use Rattle.script_definitions.proofs.Words.{◌∙◌, sym, ap, list_any, is_unlimited}
use Rattle.script_definitions.proofs.DimLaws.{some_of_map, some_record}
use Rattle.script_definitions.proofs.dims.Dims.has_unlimited.Goals as goal

pub returns : goal.returns
returns c =
    c.is_some.ensures ∙ sym (some_of_map (λ n. n.now) c.self.inside.unlimited) ∙ sym (some_record _ c.self.inside.list.items c.self.invariant.1)
    ∙ ap (list_any is_unlimited) c.self.view_is

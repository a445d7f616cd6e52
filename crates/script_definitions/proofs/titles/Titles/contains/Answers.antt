use Rattle.script_definitions.proofs.Words.{◌∙◌, sym, ap, list_any, any_map, same_title}
use Rattle.script_definitions.proofs.titles.Titles.contains.Goals as goal

pub returns : goal.returns
returns c =
    c.contains.ensures
    ∙ (sym (any_map (same_title (c.args.owner.now, c.args.name.now)) (λ k. (k.0.now, k.1.now)) c.self.inside.set.keys)
    ∙ ap (list_any (same_title (c.args.owner.now, c.args.name.now))) c.self.view_is)

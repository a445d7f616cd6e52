use Rattle.script_definitions.proofs.Words.{◌∙◌, List, [], ◌∷◌, ◌++◌, sym, ap, list_any, any_map, Title, same_title, pushed}
use Rattle.script_definitions.proofs.titles.Titles.push.Goals as goal

pub returns : goal.returns
returns c =
    pushed (λ k. same_title (c.args.owner.now, c.args.name.now) (k.0.now, k.1.now)) c.self.inside.set.keys c.insert.new.self.keys (c.args.owner, c.args.name) (λ k. (k.0.now, k.1.now)) c.in_ok-insert.ensures.keys
    (sym (any_map (same_title (c.args.owner.now, c.args.name.now)) (λ k. (k.0.now, k.1.now)) c.self.inside.set.keys) ∙ (ap (list_any (same_title (c.args.owner.now, c.args.name.now))) c.self.view_is ∙ c.requires))
    ∙ ap (λ (titles : List Title). titles ++ (c.args.owner.now, c.args.name.now) ∷ []) c.self.view_is

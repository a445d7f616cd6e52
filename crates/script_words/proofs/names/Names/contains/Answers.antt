use Rattle.script_words.proofs.Cited.{◌∙◌, sym, ap, bytes_eq, any_map, is_among}
use Rattle.script_words.proofs.names.Names.contains.Goals as goal

pub returns : goal.returns
returns c =
    c.contains.ensures
    ∙ (sym (any_map (bytes_eq c.args.name.now) (λ k. k.now) c.self.inside.set.keys) ∙ ap (is_among c.args.name.now) c.self.view_is)

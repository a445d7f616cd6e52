use Rattle.script_words.proofs.Cited.{◌∙◌, sym, ap, bytes_eq, position, position_map}
use Rattle.script_words.proofs.names.Names.find.Goals as goal

pub returns-clause-value : goal.returns-clause-value
returns-clause-value c =
    c.get_index_of.ensures.index
    ∙ (sym (position_map (bytes_eq c.args.name.now) (λ k. k.now) c.self.inside.set.keys) ∙ ap (position (bytes_eq c.args.name.now)) c.self.view_is)

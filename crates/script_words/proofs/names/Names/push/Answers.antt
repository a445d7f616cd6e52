use Rattle.script_words.proofs.Cited.{◌∙◌, List, ℕ, [], ◌∷◌, ◌++◌, sym, ap, bytes_eq, any_map, is_among}
use Rattle.script_words.proofs.NameLaws.{pushed}
use Rattle.script_words.proofs.names.Names.push.Goals as goal

pub returns : goal.returns
returns c = record {
  ok =
      pushed (λ k. bytes_eq c.args.name.now k.now) c.self.inside.set.keys c.insert.new.self.keys c.args.name (λ k. k.now) c.in_ok-insert.ensures.keys
      (sym (any_map (bytes_eq c.args.name.now) (λ k. k.now) c.self.inside.set.keys) ∙ (ap (is_among c.args.name.now) c.self.view_is ∙ c.requires))
      ∙ ap (λ (names : List (List ℕ)). names ++ c.args.name.now ∷ []) c.self.view_is;
  err = tt;
}

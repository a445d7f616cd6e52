use Rattle.script_text.proofs.Words.{◌≡◌, ◌∷◌, ◌++◌, take, flat_map}
use Rattle.script_text.proofs.definitions.push_other_names.Given as goal

abbrev pub invariant-loop-name : goal.invariant-loop-name
invariant-loop-name l = l.out.items ≡ l.initial.out.items ++ flat_map (λ name. 44 ∷ name) (take l.name-index l.names)

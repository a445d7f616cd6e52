use Rattle.script_text.proofs.Words.{◌≡◌, ◌++◌, take, flat_map, shown_attr}
use Rattle.script_text.proofs.definitions.push_var_attrs.Given as goal

abbrev pub invariant-loop-var : goal.invariant-loop-var
invariant-loop-var l = l.out.items ≡ l.initial.out.items ++ flat_map (λ v. flat_map (shown_attr v.name) v.attrs) (take l.var-index l.vars)

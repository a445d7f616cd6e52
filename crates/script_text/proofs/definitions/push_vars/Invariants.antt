use Rattle.script_text.proofs.Words.{◌≡◌, ◌++◌, take, flat_map, shown_var}
use Rattle.script_text.proofs.definitions.push_vars.Given as goal

abbrev pub invariant-loop-var : goal.invariant-loop-var
invariant-loop-var l = l.out.items ≡ l.initial.out.items ++ flat_map (shown_var l.header) (take l.var-index l.vars)

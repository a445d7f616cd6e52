use Rattle.printed_text.proofs.Cited.{◌≡◌, ◌++◌, take, filter, flat_map, var_lines, is_listed}
use Rattle.printed_text.proofs.offsets.push_vars.Given as goal

abbrev pub invariant-loop-var : goal.invariant-loop-var
invariant-loop-var l = l.out.items ≡ l.initial.out.items ++ flat_map (var_lines l.header) (filter (is_listed l.of_records l.header) (take l.var-index l.vars))

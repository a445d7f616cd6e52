use Rattle.script_text.proofs.Words.{◌≡◌, ◌++◌, take, flat_map, shown_hint, row_of}
use Rattle.script_text.proofs.canonical.push_each_hint.Given as goal

abbrev pub invariant-loop-name : goal.invariant-loop-name
invariant-loop-name l = l.out.items ≡ l.initial.out.items ++ flat_map (λ name. shown_hint l.hints (row_of name)) (take l.name-index l.names)

use Rattle.script_text.proofs.Words.{◌≡◌, ◌++◌, take, flat_map, shown_attr}
use Rattle.script_text.proofs.definitions.push_attrs.Given as goal

abbrev pub invariant-loop-attr : goal.invariant-loop-attr
invariant-loop-attr l = l.out.items ≡ l.initial.out.items ++ flat_map (shown_attr l.owner) (take l.attr-index l.attrs)

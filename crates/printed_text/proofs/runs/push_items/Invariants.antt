use Rattle.printed_text.proofs.Cited.{◌≡◌, ◌++◌, take, flat_map, item_line}
use Rattle.printed_text.proofs.runs.push_items.Given as goal

abbrev pub invariant-loop-item : goal.invariant-loop-item
invariant-loop-item l = l.out.items ≡ l.initial.out.items ++ flat_map (item_line l.digits.0 l.digits.1) (take l.item-index l.items)

use Rattle.plan_text.proofs.Cited.{◌≡◌, ◌++◌, take, flat_map, asked_line}
use Rattle.plan_text.proofs.phases.push_asked.Given as goal

abbrev pub invariant-loop-asked : goal.invariant-loop-asked
invariant-loop-asked l = l.out.items ≡ l.initial.out.items ++ flat_map (asked_line l.direction) (take l.asked-index l.list)

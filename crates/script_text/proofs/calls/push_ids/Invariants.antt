use Rattle.script_text.proofs.Words.{◌≡◌, ◌++◌, map, take, decimal, spaced}
use Rattle.script_text.proofs.calls.push_ids.Given as goal

abbrev pub invariant-loop-id : goal.invariant-loop-id
invariant-loop-id l = l.out.items ≡ l.initial.out.items ++ spaced (map decimal (take l.id-index l.ids))
